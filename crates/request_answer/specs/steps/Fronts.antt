-- What the text of an answer is, or the head of a long one, by where it lies.
use Rattle.std.specs.Prelude.{ℕ, List}
use Rattle.request_answer.specs.declared.answer_text.Front.{Front}
use Rattle.request_answer.specs.declared.answer_text.Front.TheVariants.{Made, Refusing}

abbrev pub front_text : Front → List ℕ
front_text (Made text) = text
front_text (Refusing text) = text
