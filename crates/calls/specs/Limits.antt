-- What read and the nest test admit (document 01, 'The tape' and 'Numbers a call gives back').
use Rattle.std.specs.Prelude.{ℕ}

-- the largest label
abbrev pub last_label : ℕ
last_label = 56

-- the largest shape
abbrev pub last_shape : ℕ
last_shape = 8

-- the largest registry
abbrev pub last_registry : ℕ
last_registry = 5

-- how many containers deep records may stand
abbrev pub deepest : ℕ
deepest = 4
