-- The octets of the complete piece in front, where one stands there.
use Rattle.std.specs.Prelude.{ℕ, zero, suc, Option, Some, None}

-- none, where the measure is 0
abbrev pub complete : ℕ → Option ℕ
complete zero = None
complete (suc n) = Some (suc n)
