-- One word, two words, three, four, or another number of them.
use Rattle.std.proofs.Common.{sym, ◌∙◌}
use Rattle.command.proofs.WordsLemmas.{command_of-one, command_of-two, command_of-three, command_of-four, command_of-other}
use Rattle.command.proofs.words.command_of.Goals as goal

pub returns-then-words-eq1-clause-value : goal.returns-then-words-eq1-clause-value
returns-then-words-eq1-clause-value c = c.command_of_one.ensures.value ∙ sym (command_of-one _ _ c.if-words-eq1.true)

pub returns-then-words-eq2-clause-value : goal.returns-then-words-eq2-clause-value
returns-then-words-eq2-clause-value c = c.command_of_two.ensures.value ∙ sym (command_of-two _ _ _ c.if-words-eq2.true)

pub returns-then-words-eq3-clause-value : goal.returns-then-words-eq3-clause-value
returns-then-words-eq3-clause-value c = c.command_of_three.ensures.value ∙ sym (command_of-three _ _ _ _ c.if-words-eq3.true)

pub returns-then-words-ne4-clause-value : goal.returns-then-words-ne4-clause-value
returns-then-words-ne4-clause-value c = sym (command_of-other _ c.if-words-eq1.false c.if-words-eq2.false c.if-words-eq3.false c.if-words-ne4.true)

pub returns-clause-value : goal.returns-clause-value
returns-clause-value c = c.command_of_four.ensures.value ∙ sym (command_of-four _ _ _ _ c.if-words-ne4.false)
