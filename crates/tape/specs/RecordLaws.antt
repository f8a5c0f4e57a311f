-- Word 0 is made and read back.
use Rattle.std.specs.Prelude.{◌≡◌, ℕ, ◌+◌, ◌*◌, ◌/◌, ◌%◌, ◌<◌}
use Rattle.std.proofs.Common.{arith}
use Rattle.tape.specs.Record.{label_of, shape_of, registry_in, container_record, content_of}
use Rattle.tape.specs.declared.Content.{Content}
use Rattle.tape.specs.declared.Record.{Record}

-- the label, the shape and the registry of a record are those that it was made of
module _ (m : Content) (first past : ℕ) (label : m.label < 256) where
  pub label_made : label_of (container_record m first past) ≡ m.label
  label_made = omega arith

  pub shape_made : m.shape < 256 → shape_of (container_record m first past) ≡ m.shape
  shape_made shape = omega arith

  pub registry_made : m.shape < 256 → registry_in (container_record m first past) ≡ m.registry
  registry_made shape = omega arith

-- every record is made of what is read from it
pub made_of_content : (r : Record) (first past : ℕ) → r.first.0 ≡ first → r.past.0 ≡ past → r ≡ container_record (content_of r) first past
made_of_content r first past same same' =
    let tag : r.tag ≡ r.tag % 256 + 256 * (r.tag / 256 % 256) + 65536 * (r.tag / 65536) = omega arith in
    λ j. record { tag = tag j; start = r.start; end = r.end; number = r.number; first = record { 0 = same j }; past = record { 0 = same' j } }
