-- A fault that is handed on.
use Rattle.std.proofs.Common.{◌≡◌, Result, Err, ap}

-- two answers with one fault have it also where the value would have been another
pub same_fault : {A B F : Type 0} {fault other : F} → ◌≡◌ {A = Result A F} (Err fault) (Err other) → ◌≡◌ {A = Result B F} (Err fault) (Err other)
same_fault {fault = fault} {other = other} h = let same : fault ≡ other = cc in ap (λ f. Err f) same
