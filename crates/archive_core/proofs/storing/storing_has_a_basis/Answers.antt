use Rattle.archive_core.proofs.storing.storing_has_a_basis.Goals as goal

pub returns : goal.returns
returns c = record {
  committed = c.texts_are_committed.ensures.groups;
  volumes = c.texts_go_on_behind.ensures.volumes;
  groups = c.texts_go_on_behind.ensures.captures;
  sound = c.storing_keeps_soundness.ensures.captures;
  of_new = c.entries_gain_what_is_stored.ensures.new;
  gain = c.entries_gain_what_is_stored.ensures.one;
  all = c.entries_gain_what_is_stored.ensures.all;
  stay = c.entries_gain_what_is_stored.ensures.same;
  keys = c.accepted_targets_have_keys.ensures;
  itself = c.growth_keeps_captures.ensures.itself;
  one = c.wires_have_one_payload.ensures.one;
  whole = c.wires_have_one_payload.ensures.whole;
  cut = c.wires_have_one_payload.ensures.cut;
}
