-- The SRv6 tail, case by case (document 01, 'SRv6 tail').
use Rattle.std.specs.Prelude.{◌≡◌, refl, List, [], ℕ, ◌+◌, ◌≤◌, ◌<◌, length}
use Rattle.std.proofs.Common.{◌∙◌, arith}
use borrow.Author.Tests.{le-leb, lt-leb}
use Rattle.std.proofs.Math.ListN.{get_or}
use Rattle.registry.specs.Registry.{number_of}
use Rattle.registry.specs.declared.Registry.TheVariants.{Srv6Sid}
use Rattle.tape.specs.Forest.{Forest, ◌⧺◌}
use Rattle.meaning.specs.Label
use Rattle.meaning.specs.Shape.{ipv6}
use Rattle.meaning.specs.Frame.{covered}
use Rattle.meaning.specs.FrameLaws.{covered_none}
use Rattle.meaning.specs.Field.{tail}
use Rattle.meaning.specs.Tree.{one}
use Rattle.meaning.specs.Tail.{inner}
use Rattle.meaning.specs.Value.{Walk, field_end, field_trees}

-- the tail of a value v, whose first octet is at base, from a place on
module _ (walk : Walk) (registry : ℕ) (v : List ℕ) (base at : ℕ) where
  -- its SID
  abbrev srv6 : Forest
  srv6 = one Label.srv6_sid ipv6 registry (base + at) (base + (at + 16)) 0

  -- the SID alone, and 16 octets taken
  pub record Alone : Type 0 where
    pub shows : field_trees walk registry v base (tail at) ≡ srv6
    pub takes : field_end v (tail at) ≡ at + 16

  alone : length v < at + 16 + 1 + get_or v (at + 16) 0 → Alone
  unfolding field_trees field_end ◌⧺◌
  alone over =
      let no = lt-leb (at + 16 + 1 + get_or v (at + 16) 0) (length v) over in
      record { shows = rw no; takes = rw no }

  -- no length octet
  pub tail_bare : length v ≡ at + 16 → Alone
  tail_bare bare = alone (omega (arith, bare))

  -- its length overruns
  pub tail_overrun : length v < at + 17 + get_or v (at + 16) 0 → Alone
  tail_overrun over = alone (omega arith)

  -- the SID, the inner area walked in registry 4, and all taken up to its last complete entry
  pub record Inner : Type 0 where
    pub shows : field_trees walk registry v base (tail at) ≡ srv6 ⧺ walk (number_of Srv6Sid) (inner v at) (base + (at + 16 + 1))
    pub takes : field_end v (tail at) ≡ at + 17 + covered (inner v at)

  -- its length fits
  pub tail_inner : at + 17 + get_or v (at + 16) 0 ≤ length v → Inner
  unfolding field_trees field_end
  tail_inner fits =
      let yes' = le-leb (at + 16 + 1 + get_or v (at + 16) 0) (length v) (omega arith) in
      record { shows = rw yes'; takes = rw yes' (omega arith) }

  -- its length is 0: the length octet is taken, and the walk is of an empty area
  pub tail_empty : at + 17 ≤ length v → get_or v (at + 16) 0 ≡ 0 → (inner v at ≡ []) × (field_end v (tail at) ≡ at + 17)
  tail_empty there empty =
      let none_inside : inner v at ≡ [] = rw empty refl in
      (none_inside, (tail_inner (omega (arith, empty))).takes ∙ rw (none_inside, covered_none) (omega arith))
