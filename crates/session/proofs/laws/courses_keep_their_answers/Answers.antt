-- The laws, by those of lower crates.
use Rattle.session.proofs.GrowingLaws.{Growing}
use Rattle.session.proofs.StayLaws.{origins_dialed, others_store_none, passed_stays}
use Rattle.session.proofs.laws.courses_keep_their_answers.Goals as goal

pub returns : goal.returns
returns c =
    let laws : Growing = record {
      itself = c.growth_keeps_captures.ensures.itself;
      steps = c.growth_keeps_captures.ensures.steps;
      keeps = c.growth_keeps_captures.ensures.keeps;
      leads = c.leading_books_grow.ensures.itself;
      leading = c.leading_books_grow.ensures.grows;
      gains = c.stored_captures_stand_behind.ensures.grows;
      stores = c.stored_captures_stand_behind.ensures.stores;
    } in
    record {
      stay = passed_stays laws c.growth_keeps_captures.ensures.payloads;
      dialed = origins_dialed;
      others = others_store_none;
    }
