use Rattle.std.proofs.Common.{◌≡◌, ℕ, ◌*◌, sym, ap, ◌∙◌}
use Rattle.std.specs.Prelude.{Ok}
use Rattle.time_text.specs.Blanks.{trim_blanks}
use Rattle.time_text.specs.Texts.{http_date}
use Rattle.time_text.proofs.HttpLemmas.{http_date_shows, shown_once, trim_blanks-http_date}
use Rattle.time_text.proofs.http.read_http.Goals as goal

pub returns-in_default-clause-reads_back : goal.returns-in_default-clause-reads_back
returns-in_default-clause-reads_back c = λ date fits e.
    let inner : c.without_blanks.result.now ≡ http_date date = c.without_blanks.ensures ∙ ap trim_blanks e ∙ trim_blanks-http_date date in
    let there = http_date_shows date fits in
    absurd (c.in_default.ensures.shown there.0 (rw inner there.1))

pub returns-clause-read : goal.returns-clause-read
returns-clause-read c = (c.in-Ok.date, rw c.without_blanks.ensures at c.in-Ok.ensures.shown, ap (λ (n : ℕ). n * 1000) (sym c.unix_secs.ensures.value))

pub returns-clause-reads_back : goal.returns-clause-reads_back
returns-clause-reads_back c = λ date fits e.
    let inner : c.without_blanks.result.now ≡ http_date date = c.without_blanks.ensures ∙ ap trim_blanks e ∙ trim_blanks-http_date date in
    ap (λ (n : ℕ). Ok (n * 1000)) (c.unix_secs.ensures.value ∙ shown_once c.without_blanks.result.now c.in-Ok.date date fits c.in-Ok.ensures.shown inner)
