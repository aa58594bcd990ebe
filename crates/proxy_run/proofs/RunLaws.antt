-- What a run leaves, by what its words ask for.
use Rattle.std.proofs.Common.{◌≡◌, ◌⊎◌, ℕ, List, ◌∷◌, Option, Some, None, refl, sym, ap, subst, ◌∙◌, inl, inr}
use Rattle.archive_shelf.specs.declared.depth.Depth.TheVariants.{Whole}
use Rattle.capture.specs.declared.book.Book.{Book}
use Rattle.capture.specs.declared.site.Site.{Site}
use Rattle.proxy_run.specs.Checks.{IsCounted}
use Rattle.following.specs.Follows.{Follows}
use Rattle.importing.specs.Imports.{Imports}
use Rattle.archive_reopening.specs.Known.{Opening, by_checkpoints, opening_of}
use Rattle.command.specs.Objects.{Kinds, Objects, objects_of, with_one}
use Rattle.command.specs.Opening.{IsNotOpened}
use Rattle.proxy_run.specs.Pipes.{Pipes, Refuses}
use Rattle.command.specs.Printing.{printed_as}
use Rattle.proxy_run.specs.Runs.{NamesNone, Runs}
use Rattle.proxy_run.specs.Serves.{LacksShelves, Serves}
use Rattle.load_trial.specs.Trials.{Tries}
use Rattle.verifying.specs.Verifies.{IsVerified}
use Rattle.command.specs.Words.{asked_of}
use Rattle.command.specs.declared.status.Status.{Status}
use Rattle.command.specs.declared.status.Status.TheVariants.{Memory}
use Rattle.command.specs.declared.words.Command.{Command}
use Rattle.command.specs.declared.words.Command.TheVariants.{Check, Follow, Import, Pipe, Serve, Trial, Verify}

module _ {D G L P N M C O : Type 0} (kinds : Kinds D G L P N M C O) (known : Option Book) (site : Option Site) where
  checked : (was : Objects D G (List (N × C)) O) (disk : D) (out : O) (status : Status)
      → IsCounted kinds.disks kinds.sinks was.disk disk (printed_as was.out out status) ⊎ IsNotOpened kinds.disks kinds.sinks (opening_of was.disk Whole None None) disk (printed_as was.out out status)
      → Runs kinds known Check site was (record was { disk = disk; out = out }) status
  checked was disk out status (inl counted) = inl (counted, refl)
  checked was disk out status (inr refused) = inr (record { refused = refused; untouched = refl })

  pub runs_check : (command : Command) (was : Objects D G (List (N × C)) O) (disk : D) (out : O) (status : Status) → command ≡ Check
      → IsCounted kinds.disks kinds.sinks was.disk disk (printed_as was.out out status) ⊎ IsNotOpened kinds.disks kinds.sinks (opening_of was.disk Whole None None) disk (printed_as was.out out status)
      → Runs kinds known command site was (record was { disk = disk; out = out }) status
  runs_check command was disk out status is_check result =
      subst (λ (c : Command). Runs kinds known c site was (record was { disk = disk; out = out }) status) (sym is_check)
      (checked was disk out status result)

  verified_in : (workers : ℕ) (was : Objects D G (List (N × C)) O) (disk : D) (out : O) (status : Status)
      → IsVerified kinds.disks kinds.sinks (by_checkpoints was.disk None known) disk (printed_as was.out out status)
      ⊎ IsNotOpened kinds.disks kinds.sinks (by_checkpoints was.disk None known) disk (printed_as was.out out status)
      → Runs kinds known (Verify workers) site was (record was { disk = disk; out = out }) status
  verified_in workers was disk out status (inl verified) = inl (verified, refl)
  verified_in workers was disk out status (inr refused) = inr (record { refused = refused; untouched = refl })

  pub runs_verify : (command : Command) (workers : ℕ) (was : Objects D G (List (N × C)) O) (disk : D) (out : O) (status : Status) → command ≡ Verify workers
      → IsVerified kinds.disks kinds.sinks (by_checkpoints was.disk None known) disk (printed_as was.out out status)
      ⊎ IsNotOpened kinds.disks kinds.sinks (by_checkpoints was.disk None known) disk (printed_as was.out out status)
      → Runs kinds known command site was (record was { disk = disk; out = out }) status
  runs_verify command workers was disk out status is_verify result =
      subst (λ (c : Command). Runs kinds known c site was (record was { disk = disk; out = out }) status) (sym is_verify)
      (verified_in workers was disk out status result)

  tried_in : (count seed : ℕ) (was : Objects D G (List (N × C)) O) (disk : D) (out : O) (status : Status) → Tries kinds.sinks count seed was.out out status
      → disk ≡ was.disk → Runs kinds known (Trial count seed) site was (record was { disk = disk; out = out }) status
  tried_in count seed was disk out status tries same =
      subst (λ d. Runs kinds known (Trial count seed) site was (record was { disk = d; out = out }) status) (sym same)
      (tries, refl)

  pub runs_trial : (command : Command) (count seed : ℕ) (was : Objects D G (List (N × C)) O) (disk : D) (out : O) (status : Status) → command ≡ Trial count seed
      → Tries kinds.sinks count seed was.out out status → disk ≡ was.disk → Runs kinds known command site was (record was { disk = disk; out = out }) status
  runs_trial command count seed was disk out status is_trial tries same =
      subst (λ (c : Command). Runs kinds known c site was (record was { disk = disk; out = out }) status) (sym is_trial)
      (tried_in count seed was disk out status tries same)

  refuses_all : (opening : Opening D) (was is : Objects D G (List (N × C)) O) (status : Status) (before after : N × C) (others : List (N × C))
      → was.crew ≡ before ∷ others → is.crew ≡ after ∷ others → Refuses kinds opening (with_one was before) (with_one is after) status
      → Refuses kinds opening was is status
  refuses_all opening was is status before after others were are refuses = record {
    refused = refuses.refused;
    untouched =
        ap (λ (w : List (N × C)). objects_of is.disk is.gate w is.out) are
        ∙ ap (λ (o : Objects D G (N × C) O). objects_of is.disk o.gate (o.crew ∷ others) is.out) refuses.untouched
        ∙ sym (ap (λ (w : List (N × C)). objects_of is.disk was.gate w is.out) were);
  }

  piped : (namespace : List ℕ) (was is : Objects D G (List (N × C)) O) (status : Status) (before after : N × C) (others : List (N × C))
      → was.crew ≡ before ∷ others → is.crew ≡ after ∷ others
      → Pipes kinds known (Some namespace) (with_one was before) (with_one is after) status
      ⊎ Refuses kinds (by_checkpoints was.disk (Some namespace) known) (with_one was before) (with_one is after) status → Runs kinds known (Pipe namespace) site was is status
  piped namespace was is status before after others were are (inl pipes) =
      inl (record { before = before; after = after; others = others; were = were; are = are }, pipes)
  piped namespace was is status before after others were are (inr refuses) =
      inr (refuses_all (by_checkpoints was.disk (Some namespace) known) was is status before after others were are refuses)

  pub runs_pipe : (command : Command) (namespace : List ℕ) (was is : Objects D G (List (N × C)) O) (status : Status) (before after : N × C) (others : List (N × C))
      → command ≡ Pipe namespace → was.crew ≡ before ∷ others → is.crew ≡ after ∷ others
      → Pipes kinds known (asked_of command) (with_one was before) (with_one is after) status
      ⊎ Refuses kinds (by_checkpoints was.disk (asked_of command) known) (with_one was before) (with_one is after) status → Runs kinds known command site was is status
  runs_pipe command namespace was is status before after others is_pipe were are result =
      subst (λ (c : Command). Runs kinds known c site was is status) (sym is_pipe)
      (piped namespace was is status before after others were are
      (subst (λ c. Pipes kinds known (asked_of c) (with_one was before) (with_one is after) status
      ⊎ Refuses kinds (by_checkpoints was.disk (asked_of c) known) (with_one was before) (with_one is after) status) is_pipe result))

  taken_in : (namespace : List ℕ) (was : Objects D G (List (N × C)) O) (disk : D) (gate : G) (out : O) (status : Status)
      → Imports kinds.disks kinds.gates kinds.sinks kinds.clients_tell known (Some namespace) (objects_of was.disk was.gate tt was.out) (objects_of disk gate tt out) status
      ⊎ (IsNotOpened kinds.disks kinds.sinks (by_checkpoints was.disk (Some namespace) known) disk (printed_as was.out out status) × (gate ≡ was.gate))
      → Runs kinds known (Import namespace) site was (record was { disk = disk; gate = gate; out = out }) status
  taken_in namespace was disk gate out status (inl imports) = inl (imports, refl)
  taken_in namespace was disk gate out status (inr (refused, same)) =
      inr (record { refused = refused; untouched = ap (λ (g : G). record was { disk = disk; gate = g; out = out }) same })

  pub runs_import : (command : Command) (namespace : List ℕ) (was : Objects D G (List (N × C)) O) (disk : D) (gate : G) (out : O) (status : Status)
      → command ≡ Import namespace
      → Imports kinds.disks kinds.gates kinds.sinks kinds.clients_tell known (asked_of command) (objects_of was.disk was.gate tt was.out) (objects_of disk gate tt out) status
      ⊎ (IsNotOpened kinds.disks kinds.sinks (by_checkpoints was.disk (asked_of command) known) disk (printed_as was.out out status) × (gate ≡ was.gate))
      → Runs kinds known command site was (record was { disk = disk; gate = gate; out = out }) status
  runs_import command namespace was disk gate out status is_import result =
      subst (λ (c : Command). Runs kinds known c site was (record was { disk = disk; gate = gate; out = out }) status) (sym is_import)
      (taken_in namespace was disk gate out status
      (subst (λ c. Imports kinds.disks kinds.gates kinds.sinks kinds.clients_tell known (asked_of c) (objects_of was.disk was.gate tt was.out) (objects_of disk gate tt out) status
      ⊎ (IsNotOpened kinds.disks kinds.sinks (by_checkpoints was.disk (asked_of c) known) disk (printed_as was.out out status) × (gate ≡ was.gate))) is_import result))

  replicated : (namespace : List ℕ) (base : Site) (was is : Objects D G (List (N × C)) O) (status : Status) (before after : N × C) (others : List (N × C))
      → was.crew ≡ before ∷ others → is.crew ≡ after ∷ others → is.gate ≡ was.gate
      → Follows kinds.disks kinds.dialers kinds.sinks kinds.origins_tell known (Some namespace) base (objects_of was.disk tt before was.out) (objects_of is.disk tt after is.out) status
      ⊎ (IsNotOpened kinds.disks kinds.sinks (by_checkpoints was.disk (Some namespace) known) is.disk (printed_as was.out is.out status) × (after ≡ before))
      → Runs kinds known (Follow namespace) (Some base) was is status
  replicated namespace base was is status before after others were are gate (inl follows) =
      inl (record { before = before; after = after; others = others; were = were; are = are }, follows, gate)
  replicated namespace base was is status before after others were are gate (inr (refused, same)) =
      inr (inl (refuses_all (by_checkpoints was.disk (Some namespace) known) was is status before after others were are (record {
        refused = refused;
        untouched =
            ap (λ (m : N × C). objects_of is.disk is.gate m is.out) same ∙ ap (λ (g : G). objects_of is.disk g before is.out) gate;
      })))

  pub runs_follow : (command : Command) (namespace : List ℕ) (base : Site) (was is : Objects D G (List (N × C)) O) (status : Status) (before after : N × C)
      (others : List (N × C)) → command ≡ Follow namespace → Some base ≡ site → was.crew ≡ before ∷ others → is.crew ≡ after ∷ others
      → is.gate ≡ was.gate
      → Follows kinds.disks kinds.dialers kinds.sinks kinds.origins_tell known (asked_of command) base (objects_of was.disk tt before was.out) (objects_of is.disk tt after is.out) status
      ⊎ (IsNotOpened kinds.disks kinds.sinks (by_checkpoints was.disk (asked_of command) known) is.disk (printed_as was.out is.out status) × (after ≡ before))
      → Runs kinds known command site was is status
  runs_follow command namespace base was is status before after others is_follow is_site were are gate result =
      subst (λ (s : Option Site). Runs kinds known command s was is status) is_site
      (subst (λ (c : Command). Runs kinds known c (Some base) was is status) (sym is_follow)
      (replicated namespace base was is status before after others were are gate
      (subst (λ c. Follows kinds.disks kinds.dialers kinds.sinks kinds.origins_tell known (asked_of c) base (objects_of was.disk tt before was.out) (objects_of is.disk tt after is.out) status
      ⊎ (IsNotOpened kinds.disks kinds.sinks (by_checkpoints was.disk (asked_of c) known) is.disk (printed_as was.out is.out status) × (after ≡ before))) is_follow result)))

  follow_lacking : (namespace : List ℕ) (base : Option Site) (was : Objects D G (List (N × C)) O) (status : Status) → status ≡ Memory
      → Runs kinds known (Follow namespace) base was was status
  follow_lacking namespace None was status memory = inr (memory, refl)
  follow_lacking namespace (Some base) was status memory = inr (inr (memory, refl))

  siteless : (namespace : List ℕ) (was : Objects D G (List (N × C)) O) (out : O) (status : Status) → NamesNone kinds.sinks site was.out out status
      → Runs kinds known (Follow namespace) site was (record was { out = out }) status
  siteless namespace was out status (inl (none, printed)) =
      subst (λ (s : Option Site). Runs kinds known (Follow namespace) s was (record was { out = out }) status) (sym none)
      (inl (record { printed = printed; untouched = refl }))
  siteless namespace was out status (inr lacks) =
      subst (λ (o : O). Runs kinds known (Follow namespace) site was (record was { out = o }) status) (sym lacks.same)
      (follow_lacking namespace site was status lacks.status_is)

  -- the base is none, or there was no memory to look at it
  pub follow_siteless : (command : Command) (namespace : List ℕ) (was : Objects D G (List (N × C)) O) (out : O) (status : Status) → command ≡ Follow namespace
      → NamesNone kinds.sinks site was.out out status → Runs kinds known command site was (record was { out = out }) status
  follow_siteless command namespace was out status is_follow none =
      subst (λ (c : Command). Runs kinds known c site was (record was { out = out }) status) (sym is_follow)
      (siteless namespace was out status none)

  served : (namespace : List ℕ) (base : Site) (workers : ℕ) (was is : Objects D G (List (N × C)) O) (status : Status)
      → Serves kinds known (record { asked = Some namespace; site = base; workers = workers }) was is status
      ⊎ LacksShelves kinds known (Some namespace) was is status
      ⊎ Refuses kinds (by_checkpoints was.disk (Some namespace) known) was is status
      → Runs kinds known (Serve namespace workers) (Some base) was is status
  served namespace base workers was is status (inl serves) = inl serves
  served namespace base workers was is status (inr (inl lacks)) = inr (inl lacks)
  served namespace base workers was is status (inr (inr refuses)) = inr (inr (inl refuses))

  pub runs_serve : (command : Command) (namespace : List ℕ) (base : Site) (workers : ℕ) (was is : Objects D G (List (N × C)) O) (status : Status)
      → command ≡ Serve namespace workers → Some base ≡ site
      → Serves kinds known (record { asked = Some namespace; site = base; workers = workers }) was is status
      ⊎ LacksShelves kinds known (Some namespace) was is status
      ⊎ Refuses kinds (by_checkpoints was.disk (Some namespace) known) was is status
      → Runs kinds known command site was is status
  runs_serve command namespace base workers was is status is_serve is_site result =
      subst (λ (s : Option Site). Runs kinds known command s was is status) is_site
      (subst (λ (c : Command). Runs kinds known c (Some base) was is status) (sym is_serve) (served namespace base workers was is status result))

  serve_lacking : (namespace : List ℕ) (workers : ℕ) (base : Option Site) (was : Objects D G (List (N × C)) O) (status : Status) → status ≡ Memory
      → Runs kinds known (Serve namespace workers) base was was status
  serve_lacking namespace workers None was status memory = inr (memory, refl)
  serve_lacking namespace workers (Some base) was status memory = inr (inr (inr (memory, refl)))

  siteless_server : (namespace : List ℕ) (workers : ℕ) (was : Objects D G (List (N × C)) O) (out : O) (status : Status)
      → NamesNone kinds.sinks site was.out out status → Runs kinds known (Serve namespace workers) site was (record was { out = out }) status
  siteless_server namespace workers was out status (inl (none, printed)) =
      subst (λ (s : Option Site). Runs kinds known (Serve namespace workers) s was (record was { out = out }) status) (sym none)
      (inl (record { printed = printed; untouched = refl }))
  siteless_server namespace workers was out status (inr lacks) =
      subst (λ (o : O). Runs kinds known (Serve namespace workers) site was (record was { out = o }) status) (sym lacks.same)
      (serve_lacking namespace workers site was status lacks.status_is)

  pub serve_siteless : (command : Command) (namespace : List ℕ) (workers : ℕ) (was : Objects D G (List (N × C)) O) (out : O) (status : Status)
      → command ≡ Serve namespace workers → NamesNone kinds.sinks site was.out out status
      → Runs kinds known command site was (record was { out = out }) status
  serve_siteless command namespace workers was out status is_serve none =
      subst (λ (c : Command). Runs kinds known c site was (record was { out = out }) status) (sym is_serve)
      (siteless_server namespace workers was out status none)
