-- What follows where there is no fault, and where there is one.
use Rattle.std.proofs.Common.{◌≡◌, Some, None, Err, Option, refl}
use Rattle.tasks.specs.declared.fault.Fault.{Fault}
use Rattle.law.specs.Obey.{Point, Reply, decided}

-- what holds of the reply, accepted or refused
pub decided_both : (o : Option Fault) (p : Point) (r : Reply) (P : Reply → Type 0) → (o ≡ None → P r)
    → ((f : Fault) → P (record { answer = Err f; next = p })) → P (decided o p r)
decided_both None p r P taken refused = taken refl
decided_both (Some f) p r P taken refused = refused f
