-- What a run is that began, or didn't.
use Rattle.std.proofs.Common.{◌≡◌, List, Option, Some, None, refl, sym, ap, subst, ◌∙◌, inl, inr}
use Rattle.capture.specs.declared.book.Book.{Book}
use Rattle.capture.specs.declared.site.Site.{Site}
use Rattle.command.specs.Beginning.{MayBegin}
use Rattle.command.specs.Objects.{Kinds, Objects}
use Rattle.command.specs.Printing.{Prints, printed_as}
use Rattle.command.specs.Texts.{usage}
use Rattle.command.specs.declared.status.Status.{Status}
use Rattle.command.specs.declared.status.Status.TheVariants.{Words}
use Rattle.command.specs.declared.words.Command.{Command}
use Rattle.disk_model.specs.declared.disk.Disk.{Ghosts as Disks}
use Rattle.proxy_run.specs.Runs.{IsReady, IsUnready, MayRun, Runs, RunsFrom}

pub may_begin : {D : Type 0} (disks : Disks D) (disk : D) (known : Option Book) (command : Command) → MayRun disks disk known (Some command) → MayBegin disks disk known command
may_begin disks disk None command may = tt
may_begin disks disk (Some book) command may = may

module _ {D G L P N M C O : Type 0} (kinds : Kinds D G L P N M C O) (known : Option Book) (found : Option Command) (site : Option Site)
    (was : Objects D G (List (N × C)) O) where
  pub misspelled : (out : O) (status : Status) → found ≡ None → Prints kinds.sinks Words usage was.out out status
      → RunsFrom kinds known found site was (record was { out = out }) status
  misspelled out status none printed =
      subst (λ (f : Option Command). RunsFrom kinds known f site was (record was { out = out }) status) (sym none) (record { printed = printed; untouched = refl })

  module _ (command : Command) (is_command : found ≡ Some command) where
    pub runs_ready : (begun : D) (is : Objects D G (List (N × C)) O) (status : Status) (out : O) → out ≡ was.out → IsReady kinds.disks found site was.disk begun
        → Runs kinds known command site (record was { disk = begun; out = out }) is status → RunsFrom kinds known found site was is status
    runs_ready begun is status out same ready runs =
        let at : IsReady kinds.disks (Some command) site was.disk begun =
        subst (λ (f : Option Command). IsReady kinds.disks f site was.disk begun) is_command ready in
        subst (λ (f : Option Command). RunsFrom kinds known f site was is status) (sym is_command)
        (inr (inl (
          at.0,
          inl (
            begun,
            at.1,
            subst (λ (o : O). Runs kinds known command site (record was { disk = begun; out = o }) is status) same runs,
          ),
        )))

    ended : (disk : D) (out : O) (status : Status) → IsUnready kinds.disks kinds.sinks (Some command) site was.disk disk (printed_as was.out out status)
        → RunsFrom kinds known (Some command) site was (record was { disk = disk; out = out }) status
    ended disk out status (inl (inl (none, printed), same)) =
        inl (none, record { printed = printed; untouched = ap (λ (d : D). record was { disk = d; out = out }) same })
    ended disk out status (inl (inr lacks, same)) =
        inr (inr (lacks.status_is, ap (λ (d : D). record was { disk = d; out = out }) same ∙ ap (λ (o : O). record was { out = o }) lacks.same))
    ended disk out status (inr (named, stores, fails)) = inr (inl (named, inr (stores, record { begun = fails; untouched = refl })))

    pub runs_unready : (disk : D) (out : O) (status : Status) → IsUnready kinds.disks kinds.sinks found site was.disk disk (printed_as was.out out status)
        → RunsFrom kinds known found site was (record was { disk = disk; out = out }) status
    runs_unready disk out status unready =
        subst (λ (f : Option Command). RunsFrom kinds known f site was (record was { disk = disk; out = out }) status) (sym is_command)
        (ended disk out status (subst (λ (f : Option Command). IsUnready kinds.disks kinds.sinks f site was.disk disk (printed_as was.out out status)) is_command unready))
