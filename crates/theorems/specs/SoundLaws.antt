-- Laws of sound trees: they nest, and each of their records can be read.
use Rattle.std.specs.Prelude.{◌≡◌, refl, Bool, true, false, List, [], ◌∷◌, ℕ, zero, suc, ◌+◌, ◌*◌, ◌≤◌, ◌<◌, leb, length}
use Rattle.std.proofs.Common.{arith, le-leb, lt-ltb}
use Rattle.tape.specs.Both.{and_true}
use Rattle.calls.specs.Limits.{last_label, last_shape, last_registry}
use Rattle.tape.specs.Record.{holds, tag_of, label_of, shape_of, container_record}
use Rattle.tape.specs.RecordLaws.{label_made, shape_made}
use Rattle.calls.specs.Calls.{readable}
use Rattle.tape.specs.Forest.{Forest, none, leaf, node, ◌⧺◌, depth, Fits, Formed}
use Rattle.tape.specs.declared.Content.{Content}
use Rattle.meaning.specs.Label.{Label, number}
use Rattle.meaning.specs.Shape.{Shape, Container, shape_number, container_number, has_number}
use Rattle.meaning.specs.Shape
use Rattle.meaning.specs.Cut.{each}
use Rattle.meaning.specs.Tree.{content}
use Rattle.theorems.specs.Closed.{Closed}
use Rattle.theorems.specs.Sound.{Fine, Sound}

-- Fine

label_fits : (l : Label) → number l ≤ last_label
label_fits Label.type = omega arith
label_fits Label.length = omega arith
label_fits Label.value = omega arith
label_fits Label.raw = omega arith
label_fits Label.sub_tlvs = omega arith
label_fits Label.admin_group = omega arith
label_fits Label.local_identifier = omega arith
label_fits Label.remote_identifier = omega arith
label_fits Label.ipv4_interface_address = omega arith
label_fits Label.ipv4_neighbor_address = omega arith
label_fits Label.ipv6_interface_address = omega arith
label_fits Label.ipv6_neighbor_address = omega arith
label_fits Label.max_bandwidth = omega arith
label_fits Label.max_reservable_bandwidth = omega arith
label_fits Label.unreserved_bandwidth = omega arith
label_fits Label.te_default_metric = omega arith
label_fits Label.flags = omega arith
label_fits Label.weight = omega arith
label_fits Label.algorithm = omega arith
label_fits Label.sid = omega arith
label_fits Label.neighbor_system_id = omega arith
label_fits Label.anomalous = omega arith
label_fits Label.delay = omega arith
label_fits Label.min_delay = omega arith
label_fits Label.max_delay = omega arith
label_fits Label.delay_variation = omega arith
label_fits Label.link_loss = omega arith
label_fits Label.bandwidth = omega arith
label_fits Label.endpoint_behavior = omega arith
label_fits Label.srv6_sid = omega arith
label_fits Label.locator_block_length = omega arith
label_fits Label.locator_node_length = omega arith
label_fits Label.function_length = omega arith
label_fits Label.argument_length = omega arith
label_fits Label.tags = omega arith
label_fits Label.flag_x = omega arith
label_fits Label.flag_r = omega arith
label_fits Label.flag_n = omega arith
label_fits Label.ipv4_source_router_id = omega arith
label_fits Label.ipv6_source_router_id = omega arith
label_fits Label.ranges = omega arith
label_fits Label.algorithms = omega arith
label_fits Label.msds = omega arith
label_fits Label.preference = omega arith
label_fits Label.srv6_flags = omega arith
label_fits Label.ipv4_te_router_id = omega arith
label_fits Label.ipv6_te_router_id = omega arith
label_fits Label.sub_tlv = omega arith
label_fits Label.range = omega arith
label_fits Label.range_size = omega arith
label_fits Label.range_sid = omega arith
label_fits Label.msd = omega arith
label_fits Label.msd_type = omega arith
label_fits Label.msd_value = omega arith
label_fits Label.bandwidth_element = omega arith
label_fits Label.tag = omega arith
label_fits Label.algorithm_element = omega arith

-- a leaf's record
pub fine_leaf : (label : Label) (shape : Shape) (registry start end n : ℕ) → registry ≤ last_registry → start ≤ end → (has_number shape ≡ false → n ≡ 0)
    → Fine false (content (number label) (shape_number shape) registry start end n)
fine_leaf label shape registry start end n low order empty =
    record { label = label_fits label; shape = small shape; registry = low; order = order; kind = plain shape; unused = λ high. empty (bare shape high) }
  where
    small : (s : Shape) → shape_number s ≤ last_shape
    small Shape.u8 = omega arith
    small Shape.u16 = omega arith
    small Shape.u32 = omega arith
    small Shape.u64 = omega arith
    small Shape.ipv4 = omega arith
    small Shape.ipv6 = omega arith
    small Shape.bytes = omega arith

    plain : (s : Shape) → holds (shape_number s) ≡ false
    plain Shape.u8 = refl
    plain Shape.u16 = refl
    plain Shape.u32 = refl
    plain Shape.u64 = refl
    plain Shape.ipv4 = refl
    plain Shape.ipv6 = refl
    plain Shape.bytes = refl

    bare : (s : Shape) → 4 ≤ shape_number s → has_number s ≡ false
    bare Shape.u8 high = absurd (omega arith)
    bare Shape.u16 high = absurd (omega arith)
    bare Shape.u32 high = absurd (omega arith)
    bare Shape.u64 high = absurd (omega arith)
    bare Shape.ipv4 high = refl
    bare Shape.ipv6 high = refl
    bare Shape.bytes high = refl

-- a container's record
pub fine_node : (label : Label) (shape : Container) (registry start end : ℕ) → registry ≤ last_registry → start ≤ end
    → Fine true (content (number label) (container_number shape) registry start end 0)
fine_node label Shape.array registry start end low order =
    record { label = label_fits label; shape = omega arith; registry = low; order = order; kind = refl; unused = λ high. refl }
fine_node label Shape.object registry start end low order =
    record { label = label_fits label; shape = omega arith; registry = low; order = order; kind = refl; unused = λ high. refl }

-- such a record can be read
pub fine_readable : (container : Bool) (m : Content) (first past : ℕ) → Fine container m → readable (container_record m first past) ≡ true
unfolding readable
fine_readable container m first past fine =
    let l : m.label < 256 = omega (arith, fine.label) in
    let s : m.shape < 256 = omega (arith, fine.shape) in
    let label' : leb (label_of (container_record m first past)) last_label ≡ true = rw (label_made m first past l) (le-leb _ _ fine.label) in
    let shape' : leb (shape_of (container_record m first past)) last_shape ≡ true = rw (shape_made m first past l s) (le-leb _ _ fine.shape) in
    and_true label' (and_true shape'
    (and_true (lt-ltb (tag_of m) (65536 * suc last_registry) (omega (arith, fine.label, fine.shape, fine.registry))) (le-leb _ _ fine.order)))

-- a fine record has its place in a forest
fits : {container : Bool} {m : Content} → Fine container m → Fits container m
fits fine = record { label = omega (arith, fine.label); shape = omega (arith, fine.shape); kind = fine.kind }

-- Sound

-- nothing
pub sound_none : (d : ℕ) → Sound d none
unfolding Sound
sound_none d = tt

-- one after the other
pub sound-⧺ : (d : ℕ) (f g : Forest) → Sound d f → Sound d g → Sound d (f ⧺ g)
unfolding Sound ◌⧺◌
sound-⧺ d none g x y = y
sound-⧺ d (leaf m f) g x y = (x.0, sound-⧺ d f g x.1 y)
sound-⧺ zero (node m k f) g x y = x
sound-⧺ (suc d) (node m k f) g x y = (x.0, (x.1.0, sound-⧺ (suc d) f g x.1.1 y))

pub sound_closed : (d : ℕ) → Closed (Sound d)
sound_closed d = record { nothing = sound_none d; together = sound-⧺ d }

-- where more containers are allowed
pub sound_deeper : (d : ℕ) (f : Forest) → Sound d f → Sound (suc d) f
unfolding Sound
sound_deeper d none x = tt
sound_deeper d (leaf m f) x = (x.0, sound_deeper d f x.1)
sound_deeper zero (node m k f) x = absurd x
sound_deeper (suc d) (node m k f) x = (x.0, (sound_deeper d k x.1.0, sound_deeper (suc d) f x.1.1))

-- pieces
pub sound_each : (d : ℕ) (f : List ℕ → ℕ → Forest) → ((p : List ℕ) (at : ℕ) → Sound d (f p at)) → (ps : List (List ℕ)) (at : ℕ) → Sound d (each f at ps)
unfolding Sound each
sound_each d f x [] at = tt
sound_each d f x (p ∷ ps) at = sound-⧺ d (f p at) (each f (at + length p) ps) (x p at) (sound_each d f x ps (at + length p))

-- they are no deeper than said ..
pub sound_depth : (d : ℕ) (f : Forest) → Sound d f → depth f ≤ d
unfolding Sound depth
sound_depth d none x = omega arith
sound_depth d (leaf m f) x = sound_depth d f x.1
sound_depth zero (node m k f) x = absurd x
sound_depth (suc d) (node m k f) x = omega (arith, sound_depth d k x.1.0, sound_depth (suc d) f x.1.1)

-- .. and leaves and containers have their shapes
pub sound_formed : (d : ℕ) (f : Forest) → Sound d f → Formed f
unfolding Sound Formed
sound_formed d none x = tt
sound_formed d (leaf m f) x = (fits x.0, sound_formed d f x.1)
sound_formed zero (node m k f) x = absurd x
sound_formed (suc d) (node m k f) x = (fits x.0, (sound_formed d k x.1.0, sound_formed (suc d) f x.1.1))
