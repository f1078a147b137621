-- Commands after others.
use Rattle.std.proofs.Common.{◌≡◌, List, [], ◌∷◌, ◌++◌, refl, ap}
use Rattle.law.specs.declared.command.Command.{Command}
use Rattle.law.specs.Meaning.{Meaning}
use Rattle.law.specs.Obey.{Point, obey}
use Rattle.law.specs.Runs.{after, events}

module _ {V : Type 0} (w : Meaning V) where
  pub after_append : (p : Point) (cs ds : List Command) → after w p (cs ++ ds) ≡ after w (after w p cs) ds
  after_append p [] ds = refl
  after_append p (c ∷ cs) ds = after_append (obey w p c).next cs ds

  pub events_append : (p : Point) (cs ds : List Command) → events w p (cs ++ ds) ≡ events w p cs ++ events w (after w p cs) ds
  events_append p [] ds = refl
  events_append p (c ∷ cs) ds =
      ap (λ es. record { command = c; answer = (obey w p c).answer } ∷ es) (events_append (obey w p c).next cs ds)
