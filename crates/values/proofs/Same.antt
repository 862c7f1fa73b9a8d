-- A half space is its coefficients and its constant.
use Rattle.std.proofs.Common.{◌≡◌, ap₂, List, ℤ}
use Rattle.nets.specs.HalfSpaces.{HalfSpace}

pub same_space : (h : HalfSpace) (ks : List ℤ) (k : ℤ) → ks ≡ h.coefficients → k ≡ h.constant → ◌≡◌ {A = HalfSpace} (record { coefficients = ks; constant = k }) h
same_space h ks k e f = ap₂ {C = HalfSpace} (λ (ks : List ℤ) (k : ℤ). record { coefficients = ks; constant = k }) e f
