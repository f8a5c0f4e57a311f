-- What the Rust of docs/src shows of values around each row's least length and of the special cases: pushes at base 100 (made by `oracle cases`).
use Rattle.std.specs.Prelude.{List, [], ◌∷◌, ℕ}
use Rattle.meaning.specs.Examples.Example.{printed, Case, push}

-- registry, area, octets covered, records (label, shape, registry, words 1 to 5)
unfoldable pub rust_cases : List Case
rust_cases =
    push 0 [] 0 [] ∷
    push 1 [] 0 [] ∷
    push 2 [] 0 [] ∷
    push 3 [] 0 [] ∷
    push 4 [] 0 [] ∷
    push 5 [] 0 [] ∷
    push 0 (0x03 ∷ 0x03 ∷ 0x96 ∷ 0x33 ∷ 0xD0 ∷ 0x03 ∷ 0x04 ∷ 0x69 ∷ 0xCC ∷ 0x2F ∷ 0x92 ∷ 0x03 ∷ 0x05 ∷ 0x96 ∷ 0x33 ∷ 0xD0 ∷ 0x6D ∷ 0x0A ∷ []) 18 (
    printed 4 7 0 100 118 0 1 14 ∷
    printed 47 8 0 100 105 0 2 5 ∷
    printed 0 0 0 100 101 3 0 0 ∷
    printed 1 0 0 101 102 3 0 0 ∷
    printed 2 6 0 102 105 0 0 0 ∷
    printed 47 8 0 105 111 0 6 9 ∷
    printed 0 0 0 105 106 3 0 0 ∷
    printed 1 0 0 106 107 4 0 0 ∷
    printed 5 2 0 107 111 1774989202 0 0 ∷
    printed 47 8 0 111 118 0 10 14 ∷
    printed 0 0 0 111 112 3 0 0 ∷
    printed 1 0 0 112 113 5 0 0 ∷
    printed 5 2 0 113 117 2519978093 0 0 ∷
    printed 3 6 0 117 118 0 0 0 ∷
    []
    ) ∷
    push 0 (0x04 ∷ 0x07 ∷ 0x96 ∷ 0x33 ∷ 0xD0 ∷ 0x6D ∷ 0x0A ∷ 0xA7 ∷ 0x44 ∷ 0x04 ∷ 0x08 ∷ 0x69 ∷ 0xCC ∷ 0x2F ∷ 0x92 ∷ 0xF5 ∷ 0x58 ∷ 0xBB ∷ 0x1E ∷ 0x04 ∷ 0x09 ∷ 0x96 ∷ 0x33 ∷ 0xD0 ∷ 0x6D ∷ 0x0A ∷ 0xA7 ∷ 0x44 ∷ 0xE1 ∷ 0x7E ∷ []) 30 (
    printed 4 7 0 100 130 0 1 16 ∷
    printed 47 8 0 100 109 0 2 5 ∷
    printed 0 0 0 100 101 4 0 0 ∷
    printed 1 0 0 101 102 7 0 0 ∷
    printed 2 6 0 102 109 0 0 0 ∷
    printed 47 8 0 109 119 0 6 10 ∷
    printed 0 0 0 109 110 4 0 0 ∷
    printed 1 0 0 110 111 8 0 0 ∷
    printed 6 2 0 111 115 1774989202 0 0 ∷
    printed 7 2 0 115 119 4116232990 0 0 ∷
    printed 47 8 0 119 130 0 11 16 ∷
    printed 0 0 0 119 120 4 0 0 ∷
    printed 1 0 0 120 121 9 0 0 ∷
    printed 6 2 0 121 125 2519978093 0 0 ∷
    printed 7 2 0 125 129 178734305 0 0 ∷
    printed 3 6 0 129 130 0 0 0 ∷
    []
    ) ∷
    push 0 (0x06 ∷ 0x03 ∷ 0x96 ∷ 0x33 ∷ 0xD0 ∷ 0x06 ∷ 0x04 ∷ 0x69 ∷ 0xCC ∷ 0x2F ∷ 0x92 ∷ 0x06 ∷ 0x05 ∷ 0x96 ∷ 0x33 ∷ 0xD0 ∷ 0x6D ∷ 0x0A ∷ []) 18 (
    printed 4 7 0 100 118 0 1 14 ∷
    printed 47 8 0 100 105 0 2 5 ∷
    printed 0 0 0 100 101 6 0 0 ∷
    printed 1 0 0 101 102 3 0 0 ∷
    printed 2 6 0 102 105 0 0 0 ∷
    printed 47 8 0 105 111 0 6 9 ∷
    printed 0 0 0 105 106 6 0 0 ∷
    printed 1 0 0 106 107 4 0 0 ∷
    printed 8 4 0 107 111 0 0 0 ∷
    printed 47 8 0 111 118 0 10 14 ∷
    printed 0 0 0 111 112 6 0 0 ∷
    printed 1 0 0 112 113 5 0 0 ∷
    printed 8 4 0 113 117 0 0 0 ∷
    printed 3 6 0 117 118 0 0 0 ∷
    []
    ) ∷
    push 0 (0x08 ∷ 0x03 ∷ 0x96 ∷ 0x33 ∷ 0xD0 ∷ 0x08 ∷ 0x04 ∷ 0x69 ∷ 0xCC ∷ 0x2F ∷ 0x92 ∷ 0x08 ∷ 0x05 ∷ 0x96 ∷ 0x33 ∷ 0xD0 ∷ 0x6D ∷ 0x0A ∷ []) 18 (
    printed 4 7 0 100 118 0 1 14 ∷
    printed 47 8 0 100 105 0 2 5 ∷
    printed 0 0 0 100 101 8 0 0 ∷
    printed 1 0 0 101 102 3 0 0 ∷
    printed 2 6 0 102 105 0 0 0 ∷
    printed 47 8 0 105 111 0 6 9 ∷
    printed 0 0 0 105 106 8 0 0 ∷
    printed 1 0 0 106 107 4 0 0 ∷
    printed 9 4 0 107 111 0 0 0 ∷
    printed 47 8 0 111 118 0 10 14 ∷
    printed 0 0 0 111 112 8 0 0 ∷
    printed 1 0 0 112 113 5 0 0 ∷
    printed 9 4 0 113 117 0 0 0 ∷
    printed 3 6 0 117 118 0 0 0 ∷
    []
    ) ∷
    push 0 (0x09 ∷ 0x03 ∷ 0x96 ∷ 0x33 ∷ 0xD0 ∷ 0x09 ∷ 0x04 ∷ 0x69 ∷ 0xCC ∷ 0x2F ∷ 0x92 ∷ 0x09 ∷ 0x05 ∷ 0x96 ∷ 0x33 ∷ 0xD0 ∷ 0x6D ∷ 0x0A ∷ []) 18 (
    printed 4 7 0 100 118 0 1 14 ∷
    printed 47 8 0 100 105 0 2 5 ∷
    printed 0 0 0 100 101 9 0 0 ∷
    printed 1 0 0 101 102 3 0 0 ∷
    printed 2 6 0 102 105 0 0 0 ∷
    printed 47 8 0 105 111 0 6 9 ∷
    printed 0 0 0 105 106 9 0 0 ∷
    printed 1 0 0 106 107 4 0 0 ∷
    printed 12 2 0 107 111 1774989202 0 0 ∷
    printed 47 8 0 111 118 0 10 14 ∷
    printed 0 0 0 111 112 9 0 0 ∷
    printed 1 0 0 112 113 5 0 0 ∷
    printed 12 2 0 113 117 2519978093 0 0 ∷
    printed 3 6 0 117 118 0 0 0 ∷
    []
    ) ∷
    push 0 (0x0A ∷ 0x03 ∷ 0x96 ∷ 0x33 ∷ 0xD0 ∷ 0x0A ∷ 0x04 ∷ 0x69 ∷ 0xCC ∷ 0x2F ∷ 0x92 ∷ 0x0A ∷ 0x05 ∷ 0x96 ∷ 0x33 ∷ 0xD0 ∷ 0x6D ∷ 0x0A ∷ []) 18 (
    printed 4 7 0 100 118 0 1 14 ∷
    printed 47 8 0 100 105 0 2 5 ∷
    printed 0 0 0 100 101 10 0 0 ∷
    printed 1 0 0 101 102 3 0 0 ∷
    printed 2 6 0 102 105 0 0 0 ∷
    printed 47 8 0 105 111 0 6 9 ∷
    printed 0 0 0 105 106 10 0 0 ∷
    printed 1 0 0 106 107 4 0 0 ∷
    printed 13 2 0 107 111 1774989202 0 0 ∷
    printed 47 8 0 111 118 0 10 14 ∷
    printed 0 0 0 111 112 10 0 0 ∷
    printed 1 0 0 112 113 5 0 0 ∷
    printed 13 2 0 113 117 2519978093 0 0 ∷
    printed 3 6 0 117 118 0 0 0 ∷
    []
    ) ∷
    push 0 (0x0C ∷ 0x0F ∷ 0x96 ∷ 0x33 ∷ 0xD0 ∷ 0x6D ∷ 0x0A ∷ 0xA7 ∷ 0x44 ∷ 0xE1 ∷ 0x7E ∷ 0x1B ∷ 0xB8 ∷ 0x55 ∷ 0xF2 ∷ 0x8F ∷ 0x2C ∷ 0x0C ∷ 0x10 ∷ 0x69 ∷ 0xCC ∷ 0x2F ∷ 0x92 ∷ 0xF5 ∷ 0x58 ∷ 0xBB ∷ 0x1E ∷ 0x81 ∷ 0xE4 ∷ 0x47 ∷ 0xAA ∷ 0x0D ∷ 0x70 ∷ 0xD3 ∷ 0x36 ∷ 0x0C ∷ 0x11 ∷ 0x96 ∷ 0x33 ∷ 0xD0 ∷ 0x6D ∷ 0x0A ∷ 0xA7 ∷ 0x44 ∷ 0xE1 ∷ 0x7E ∷ 0x1B ∷ 0xB8 ∷ 0x55 ∷ 0xF2 ∷ 0x8F ∷ 0x2C ∷ 0xC9 ∷ 0x66 ∷ []) 54 (
    printed 4 7 0 100 154 0 1 14 ∷
    printed 47 8 0 100 117 0 2 5 ∷
    printed 0 0 0 100 101 12 0 0 ∷
    printed 1 0 0 101 102 15 0 0 ∷
    printed 2 6 0 102 117 0 0 0 ∷
    printed 47 8 0 117 135 0 6 9 ∷
    printed 0 0 0 117 118 12 0 0 ∷
    printed 1 0 0 118 119 16 0 0 ∷
    printed 10 5 0 119 135 0 0 0 ∷
    printed 47 8 0 135 154 0 10 14 ∷
    printed 0 0 0 135 136 12 0 0 ∷
    printed 1 0 0 136 137 17 0 0 ∷
    printed 10 5 0 137 153 0 0 0 ∷
    printed 3 6 0 153 154 0 0 0 ∷
    []
    ) ∷
    push 0 (0x0D ∷ 0x0F ∷ 0x96 ∷ 0x33 ∷ 0xD0 ∷ 0x6D ∷ 0x0A ∷ 0xA7 ∷ 0x44 ∷ 0xE1 ∷ 0x7E ∷ 0x1B ∷ 0xB8 ∷ 0x55 ∷ 0xF2 ∷ 0x8F ∷ 0x2C ∷ 0x0D ∷ 0x10 ∷ 0x69 ∷ 0xCC ∷ 0x2F ∷ 0x92 ∷ 0xF5 ∷ 0x58 ∷ 0xBB ∷ 0x1E ∷ 0x81 ∷ 0xE4 ∷ 0x47 ∷ 0xAA ∷ 0x0D ∷ 0x70 ∷ 0xD3 ∷ 0x36 ∷ 0x0D ∷ 0x11 ∷ 0x96 ∷ 0x33 ∷ 0xD0 ∷ 0x6D ∷ 0x0A ∷ 0xA7 ∷ 0x44 ∷ 0xE1 ∷ 0x7E ∷ 0x1B ∷ 0xB8 ∷ 0x55 ∷ 0xF2 ∷ 0x8F ∷ 0x2C ∷ 0xC9 ∷ 0x66 ∷ []) 54 (
    printed 4 7 0 100 154 0 1 14 ∷
    printed 47 8 0 100 117 0 2 5 ∷
    printed 0 0 0 100 101 13 0 0 ∷
    printed 1 0 0 101 102 15 0 0 ∷
    printed 2 6 0 102 117 0 0 0 ∷
    printed 47 8 0 117 135 0 6 9 ∷
    printed 0 0 0 117 118 13 0 0 ∷
    printed 1 0 0 118 119 16 0 0 ∷
    printed 11 5 0 119 135 0 0 0 ∷
    printed 47 8 0 135 154 0 10 14 ∷
    printed 0 0 0 135 136 13 0 0 ∷
    printed 1 0 0 136 137 17 0 0 ∷
    printed 11 5 0 137 153 0 0 0 ∷
    printed 3 6 0 153 154 0 0 0 ∷
    []
    ) ∷
    push 0 (0x12 ∷ 0x02 ∷ 0x96 ∷ 0x33 ∷ 0x12 ∷ 0x03 ∷ 0x69 ∷ 0xCC ∷ 0x2F ∷ 0x12 ∷ 0x04 ∷ 0x96 ∷ 0x33 ∷ 0xD0 ∷ 0x6D ∷ []) 15 (
    printed 4 7 0 100 115 0 1 14 ∷
    printed 47 8 0 100 104 0 2 5 ∷
    printed 0 0 0 100 101 18 0 0 ∷
    printed 1 0 0 101 102 2 0 0 ∷
    printed 2 6 0 102 104 0 0 0 ∷
    printed 47 8 0 104 109 0 6 9 ∷
    printed 0 0 0 104 105 18 0 0 ∷
    printed 1 0 0 105 106 3 0 0 ∷
    printed 15 2 0 106 109 6933551 0 0 ∷
    printed 47 8 0 109 115 0 10 14 ∷
    printed 0 0 0 109 110 18 0 0 ∷
    printed 1 0 0 110 111 4 0 0 ∷
    printed 15 2 0 111 114 9843664 0 0 ∷
    printed 3 6 0 114 115 0 0 0 ∷
    []
    ) ∷
    push 0 (0x21 ∷ 0x03 ∷ 0x96 ∷ 0x33 ∷ 0xD0 ∷ 0x21 ∷ 0x04 ∷ 0x69 ∷ 0xCC ∷ 0x2F ∷ 0x92 ∷ 0x21 ∷ 0x05 ∷ 0x96 ∷ 0x33 ∷ 0xD0 ∷ 0x6D ∷ 0x0A ∷ []) 18 (
    printed 4 7 0 100 118 0 1 16 ∷
    printed 47 8 0 100 105 0 2 5 ∷
    printed 0 0 0 100 101 33 0 0 ∷
    printed 1 0 0 101 102 3 0 0 ∷
    printed 2 6 0 102 105 0 0 0 ∷
    printed 47 8 0 105 111 0 6 10 ∷
    printed 0 0 0 105 106 33 0 0 ∷
    printed 1 0 0 106 107 4 0 0 ∷
    printed 21 0 0 107 108 0 0 0 ∷
    printed 22 2 0 108 111 13381522 0 0 ∷
    printed 47 8 0 111 118 0 11 16 ∷
    printed 0 0 0 111 112 33 0 0 ∷
    printed 1 0 0 112 113 5 0 0 ∷
    printed 21 0 0 113 114 1 0 0 ∷
    printed 22 2 0 114 117 3395693 0 0 ∷
    printed 3 6 0 117 118 0 0 0 ∷
    []
    ) ∷
    push 0 (0x22 ∷ 0x07 ∷ 0x96 ∷ 0x33 ∷ 0xD0 ∷ 0x6D ∷ 0x0A ∷ 0xA7 ∷ 0x44 ∷ 0x22 ∷ 0x08 ∷ 0x69 ∷ 0xCC ∷ 0x2F ∷ 0x92 ∷ 0xF5 ∷ 0x58 ∷ 0xBB ∷ 0x1E ∷ 0x22 ∷ 0x09 ∷ 0x96 ∷ 0x33 ∷ 0xD0 ∷ 0x6D ∷ 0x0A ∷ 0xA7 ∷ 0x44 ∷ 0xE1 ∷ 0x7E ∷ []) 30 (
    printed 4 7 0 100 130 0 1 18 ∷
    printed 47 8 0 100 109 0 2 5 ∷
    printed 0 0 0 100 101 34 0 0 ∷
    printed 1 0 0 101 102 7 0 0 ∷
    printed 2 6 0 102 109 0 0 0 ∷
    printed 47 8 0 109 119 0 6 11 ∷
    printed 0 0 0 109 110 34 0 0 ∷
    printed 1 0 0 110 111 8 0 0 ∷
    printed 21 0 0 111 112 0 0 0 ∷
    printed 23 2 0 112 115 13381522 0 0 ∷
    printed 24 2 0 116 119 5815070 0 0 ∷
    printed 47 8 0 119 130 0 12 18 ∷
    printed 0 0 0 119 120 34 0 0 ∷
    printed 1 0 0 120 121 9 0 0 ∷
    printed 21 0 0 121 122 1 0 0 ∷
    printed 23 2 0 122 125 3395693 0 0 ∷
    printed 24 2 0 126 129 10962145 0 0 ∷
    printed 3 6 0 129 130 0 0 0 ∷
    []
    ) ∷
    push 0 (0x23 ∷ 0x03 ∷ 0x96 ∷ 0x33 ∷ 0xD0 ∷ 0x23 ∷ 0x04 ∷ 0x69 ∷ 0xCC ∷ 0x2F ∷ 0x92 ∷ 0x23 ∷ 0x05 ∷ 0x96 ∷ 0x33 ∷ 0xD0 ∷ 0x6D ∷ 0x0A ∷ []) 18 (
    printed 4 7 0 100 118 0 1 14 ∷
    printed 47 8 0 100 105 0 2 5 ∷
    printed 0 0 0 100 101 35 0 0 ∷
    printed 1 0 0 101 102 3 0 0 ∷
    printed 2 6 0 102 105 0 0 0 ∷
    printed 47 8 0 105 111 0 6 9 ∷
    printed 0 0 0 105 106 35 0 0 ∷
    printed 1 0 0 106 107 4 0 0 ∷
    printed 25 2 0 108 111 13381522 0 0 ∷
    printed 47 8 0 111 118 0 10 14 ∷
    printed 0 0 0 111 112 35 0 0 ∷
    printed 1 0 0 112 113 5 0 0 ∷
    printed 25 2 0 114 117 3395693 0 0 ∷
    printed 3 6 0 117 118 0 0 0 ∷
    []
    ) ∷
    push 0 (0x24 ∷ 0x03 ∷ 0x96 ∷ 0x33 ∷ 0xD0 ∷ 0x24 ∷ 0x04 ∷ 0x69 ∷ 0xCC ∷ 0x2F ∷ 0x92 ∷ 0x24 ∷ 0x05 ∷ 0x96 ∷ 0x33 ∷ 0xD0 ∷ 0x6D ∷ 0x0A ∷ []) 18 (
    printed 4 7 0 100 118 0 1 16 ∷
    printed 47 8 0 100 105 0 2 5 ∷
    printed 0 0 0 100 101 36 0 0 ∷
    printed 1 0 0 101 102 3 0 0 ∷
    printed 2 6 0 102 105 0 0 0 ∷
    printed 47 8 0 105 111 0 6 10 ∷
    printed 0 0 0 105 106 36 0 0 ∷
    printed 1 0 0 106 107 4 0 0 ∷
    printed 21 0 0 107 108 0 0 0 ∷
    printed 26 2 0 108 111 13381522 0 0 ∷
    printed 47 8 0 111 118 0 11 16 ∷
    printed 0 0 0 111 112 36 0 0 ∷
    printed 1 0 0 112 113 5 0 0 ∷
    printed 21 0 0 113 114 1 0 0 ∷
    printed 26 2 0 114 117 3395693 0 0 ∷
    printed 3 6 0 117 118 0 0 0 ∷
    []
    ) ∷
    push 0 (0x25 ∷ 0x03 ∷ 0x96 ∷ 0x33 ∷ 0xD0 ∷ 0x25 ∷ 0x04 ∷ 0x69 ∷ 0xCC ∷ 0x2F ∷ 0x92 ∷ 0x25 ∷ 0x05 ∷ 0x96 ∷ 0x33 ∷ 0xD0 ∷ 0x6D ∷ 0x0A ∷ []) 18 (
    printed 4 7 0 100 118 0 1 14 ∷
    printed 47 8 0 100 105 0 2 5 ∷
    printed 0 0 0 100 101 37 0 0 ∷
    printed 1 0 0 101 102 3 0 0 ∷
    printed 2 6 0 102 105 0 0 0 ∷
    printed 47 8 0 105 111 0 6 9 ∷
    printed 0 0 0 105 106 37 0 0 ∷
    printed 1 0 0 106 107 4 0 0 ∷
    printed 27 2 0 107 111 1774989202 0 0 ∷
    printed 47 8 0 111 118 0 10 14 ∷
    printed 0 0 0 111 112 37 0 0 ∷
    printed 1 0 0 112 113 5 0 0 ∷
    printed 27 2 0 113 117 2519978093 0 0 ∷
    printed 3 6 0 117 118 0 0 0 ∷
    []
    ) ∷
    push 0 (0x26 ∷ 0x03 ∷ 0x96 ∷ 0x33 ∷ 0xD0 ∷ 0x26 ∷ 0x04 ∷ 0x69 ∷ 0xCC ∷ 0x2F ∷ 0x92 ∷ 0x26 ∷ 0x05 ∷ 0x96 ∷ 0x33 ∷ 0xD0 ∷ 0x6D ∷ 0x0A ∷ []) 18 (
    printed 4 7 0 100 118 0 1 14 ∷
    printed 47 8 0 100 105 0 2 5 ∷
    printed 0 0 0 100 101 38 0 0 ∷
    printed 1 0 0 101 102 3 0 0 ∷
    printed 2 6 0 102 105 0 0 0 ∷
    printed 47 8 0 105 111 0 6 9 ∷
    printed 0 0 0 105 106 38 0 0 ∷
    printed 1 0 0 106 107 4 0 0 ∷
    printed 27 2 0 107 111 1774989202 0 0 ∷
    printed 47 8 0 111 118 0 10 14 ∷
    printed 0 0 0 111 112 38 0 0 ∷
    printed 1 0 0 112 113 5 0 0 ∷
    printed 27 2 0 113 117 2519978093 0 0 ∷
    printed 3 6 0 117 118 0 0 0 ∷
    []
    ) ∷
    push 0 (0x27 ∷ 0x03 ∷ 0x96 ∷ 0x33 ∷ 0xD0 ∷ 0x27 ∷ 0x04 ∷ 0x69 ∷ 0xCC ∷ 0x2F ∷ 0x92 ∷ 0x27 ∷ 0x05 ∷ 0x96 ∷ 0x33 ∷ 0xD0 ∷ 0x6D ∷ 0x0A ∷ []) 18 (
    printed 4 7 0 100 118 0 1 14 ∷
    printed 47 8 0 100 105 0 2 5 ∷
    printed 0 0 0 100 101 39 0 0 ∷
    printed 1 0 0 101 102 3 0 0 ∷
    printed 2 6 0 102 105 0 0 0 ∷
    printed 47 8 0 105 111 0 6 9 ∷
    printed 0 0 0 105 106 39 0 0 ∷
    printed 1 0 0 106 107 4 0 0 ∷
    printed 27 2 0 107 111 1774989202 0 0 ∷
    printed 47 8 0 111 118 0 10 14 ∷
    printed 0 0 0 111 112 39 0 0 ∷
    printed 1 0 0 112 113 5 0 0 ∷
    printed 27 2 0 113 117 2519978093 0 0 ∷
    printed 3 6 0 117 118 0 0 0 ∷
    []
    ) ∷
    push 1 (0x04 ∷ 0x00 ∷ 0x04 ∷ 0x01 ∷ 0x69 ∷ 0x04 ∷ 0x02 ∷ 0x96 ∷ 0x33 ∷ []) 9 (
    printed 4 7 1 100 109 0 1 20 ∷
    printed 47 8 1 100 102 0 2 5 ∷
    printed 0 0 1 100 101 4 0 0 ∷
    printed 1 0 1 101 102 0 0 0 ∷
    printed 2 6 1 102 102 0 0 0 ∷
    printed 47 8 1 102 105 0 6 12 ∷
    printed 0 0 1 102 103 4 0 0 ∷
    printed 1 0 1 103 104 1 0 0 ∷
    printed 16 0 1 104 105 105 0 0 ∷
    printed 35 0 1 104 105 0 0 0 ∷
    printed 36 0 1 104 105 1 0 0 ∷
    printed 37 0 1 104 105 1 0 0 ∷
    printed 47 8 1 105 109 0 13 20 ∷
    printed 0 0 1 105 106 4 0 0 ∷
    printed 1 0 1 106 107 2 0 0 ∷
    printed 16 0 1 107 108 150 0 0 ∷
    printed 35 0 1 107 108 1 0 0 ∷
    printed 36 0 1 107 108 0 0 0 ∷
    printed 37 0 1 107 108 0 0 0 ∷
    printed 3 6 1 108 109 0 0 0 ∷
    []
    ) ∷
    push 1 (0x0B ∷ 0x03 ∷ 0x96 ∷ 0x33 ∷ 0xD0 ∷ 0x0B ∷ 0x04 ∷ 0x69 ∷ 0xCC ∷ 0x2F ∷ 0x92 ∷ 0x0B ∷ 0x05 ∷ 0x96 ∷ 0x33 ∷ 0xD0 ∷ 0x6D ∷ 0x0A ∷ []) 18 (
    printed 4 7 1 100 118 0 1 14 ∷
    printed 47 8 1 100 105 0 2 5 ∷
    printed 0 0 1 100 101 11 0 0 ∷
    printed 1 0 1 101 102 3 0 0 ∷
    printed 2 6 1 102 105 0 0 0 ∷
    printed 47 8 1 105 111 0 6 9 ∷
    printed 0 0 1 105 106 11 0 0 ∷
    printed 1 0 1 106 107 4 0 0 ∷
    printed 38 4 1 107 111 0 0 0 ∷
    printed 47 8 1 111 118 0 10 14 ∷
    printed 0 0 1 111 112 11 0 0 ∷
    printed 1 0 1 112 113 5 0 0 ∷
    printed 38 4 1 113 117 0 0 0 ∷
    printed 3 6 1 117 118 0 0 0 ∷
    []
    ) ∷
    push 1 (0x0C ∷ 0x0F ∷ 0x96 ∷ 0x33 ∷ 0xD0 ∷ 0x6D ∷ 0x0A ∷ 0xA7 ∷ 0x44 ∷ 0xE1 ∷ 0x7E ∷ 0x1B ∷ 0xB8 ∷ 0x55 ∷ 0xF2 ∷ 0x8F ∷ 0x2C ∷ 0x0C ∷ 0x10 ∷ 0x69 ∷ 0xCC ∷ 0x2F ∷ 0x92 ∷ 0xF5 ∷ 0x58 ∷ 0xBB ∷ 0x1E ∷ 0x81 ∷ 0xE4 ∷ 0x47 ∷ 0xAA ∷ 0x0D ∷ 0x70 ∷ 0xD3 ∷ 0x36 ∷ 0x0C ∷ 0x11 ∷ 0x96 ∷ 0x33 ∷ 0xD0 ∷ 0x6D ∷ 0x0A ∷ 0xA7 ∷ 0x44 ∷ 0xE1 ∷ 0x7E ∷ 0x1B ∷ 0xB8 ∷ 0x55 ∷ 0xF2 ∷ 0x8F ∷ 0x2C ∷ 0xC9 ∷ 0x66 ∷ []) 54 (
    printed 4 7 1 100 154 0 1 14 ∷
    printed 47 8 1 100 117 0 2 5 ∷
    printed 0 0 1 100 101 12 0 0 ∷
    printed 1 0 1 101 102 15 0 0 ∷
    printed 2 6 1 102 117 0 0 0 ∷
    printed 47 8 1 117 135 0 6 9 ∷
    printed 0 0 1 117 118 12 0 0 ∷
    printed 1 0 1 118 119 16 0 0 ∷
    printed 39 5 1 119 135 0 0 0 ∷
    printed 47 8 1 135 154 0 10 14 ∷
    printed 0 0 1 135 136 12 0 0 ∷
    printed 1 0 1 136 137 17 0 0 ∷
    printed 39 5 1 137 153 0 0 0 ∷
    printed 3 6 1 153 154 0 0 0 ∷
    []
    ) ∷
    push 2 (0x0B ∷ 0x03 ∷ 0x96 ∷ 0x33 ∷ 0xD0 ∷ 0x0B ∷ 0x04 ∷ 0x69 ∷ 0xCC ∷ 0x2F ∷ 0x92 ∷ 0x0B ∷ 0x05 ∷ 0x96 ∷ 0x33 ∷ 0xD0 ∷ 0x6D ∷ 0x0A ∷ []) 18 (
    printed 4 7 2 100 118 0 1 14 ∷
    printed 47 8 2 100 105 0 2 5 ∷
    printed 0 0 2 100 101 11 0 0 ∷
    printed 1 0 2 101 102 3 0 0 ∷
    printed 2 6 2 102 105 0 0 0 ∷
    printed 47 8 2 105 111 0 6 9 ∷
    printed 0 0 2 105 106 11 0 0 ∷
    printed 1 0 2 106 107 4 0 0 ∷
    printed 45 4 2 107 111 0 0 0 ∷
    printed 47 8 2 111 118 0 10 14 ∷
    printed 0 0 2 111 112 11 0 0 ∷
    printed 1 0 2 112 113 5 0 0 ∷
    printed 45 4 2 113 117 0 0 0 ∷
    printed 3 6 2 117 118 0 0 0 ∷
    []
    ) ∷
    push 2 (0x0C ∷ 0x0F ∷ 0x96 ∷ 0x33 ∷ 0xD0 ∷ 0x6D ∷ 0x0A ∷ 0xA7 ∷ 0x44 ∷ 0xE1 ∷ 0x7E ∷ 0x1B ∷ 0xB8 ∷ 0x55 ∷ 0xF2 ∷ 0x8F ∷ 0x2C ∷ 0x0C ∷ 0x10 ∷ 0x69 ∷ 0xCC ∷ 0x2F ∷ 0x92 ∷ 0xF5 ∷ 0x58 ∷ 0xBB ∷ 0x1E ∷ 0x81 ∷ 0xE4 ∷ 0x47 ∷ 0xAA ∷ 0x0D ∷ 0x70 ∷ 0xD3 ∷ 0x36 ∷ 0x0C ∷ 0x11 ∷ 0x96 ∷ 0x33 ∷ 0xD0 ∷ 0x6D ∷ 0x0A ∷ 0xA7 ∷ 0x44 ∷ 0xE1 ∷ 0x7E ∷ 0x1B ∷ 0xB8 ∷ 0x55 ∷ 0xF2 ∷ 0x8F ∷ 0x2C ∷ 0xC9 ∷ 0x66 ∷ []) 54 (
    printed 4 7 2 100 154 0 1 14 ∷
    printed 47 8 2 100 117 0 2 5 ∷
    printed 0 0 2 100 101 12 0 0 ∷
    printed 1 0 2 101 102 15 0 0 ∷
    printed 2 6 2 102 117 0 0 0 ∷
    printed 47 8 2 117 135 0 6 9 ∷
    printed 0 0 2 117 118 12 0 0 ∷
    printed 1 0 2 118 119 16 0 0 ∷
    printed 46 5 2 119 135 0 0 0 ∷
    printed 47 8 2 135 154 0 10 14 ∷
    printed 0 0 2 135 136 12 0 0 ∷
    printed 1 0 2 136 137 17 0 0 ∷
    printed 46 5 2 137 153 0 0 0 ∷
    printed 3 6 2 153 154 0 0 0 ∷
    []
    ) ∷
    push 2 (0x18 ∷ 0x00 ∷ 0x18 ∷ 0x01 ∷ 0x69 ∷ 0x18 ∷ 0x02 ∷ 0x96 ∷ 0x33 ∷ []) 9 (
    printed 4 7 2 100 109 0 1 14 ∷
    printed 47 8 2 100 102 0 2 5 ∷
    printed 0 0 2 100 101 24 0 0 ∷
    printed 1 0 2 101 102 0 0 0 ∷
    printed 2 6 2 102 102 0 0 0 ∷
    printed 47 8 2 102 105 0 6 9 ∷
    printed 0 0 2 102 103 24 0 0 ∷
    printed 1 0 2 103 104 1 0 0 ∷
    printed 43 0 2 104 105 105 0 0 ∷
    printed 47 8 2 105 109 0 10 14 ∷
    printed 0 0 2 105 106 24 0 0 ∷
    printed 1 0 2 106 107 2 0 0 ∷
    printed 43 0 2 107 108 150 0 0 ∷
    printed 3 6 2 108 109 0 0 0 ∷
    []
    ) ∷
    push 4 (0x01 ∷ 0x03 ∷ 0x96 ∷ 0x33 ∷ 0xD0 ∷ 0x01 ∷ 0x04 ∷ 0x69 ∷ 0xCC ∷ 0x2F ∷ 0x92 ∷ 0x01 ∷ 0x05 ∷ 0x96 ∷ 0x33 ∷ 0xD0 ∷ 0x6D ∷ 0x0A ∷ []) 18 (
    printed 4 7 4 100 118 0 1 20 ∷
    printed 47 8 4 100 105 0 2 5 ∷
    printed 0 0 4 100 101 1 0 0 ∷
    printed 1 0 4 101 102 3 0 0 ∷
    printed 2 6 4 102 105 0 0 0 ∷
    printed 47 8 4 105 111 0 6 12 ∷
    printed 0 0 4 105 106 1 0 0 ∷
    printed 1 0 4 106 107 4 0 0 ∷
    printed 30 0 4 107 108 105 0 0 ∷
    printed 31 0 4 108 109 204 0 0 ∷
    printed 32 0 4 109 110 47 0 0 ∷
    printed 33 0 4 110 111 146 0 0 ∷
    printed 47 8 4 111 118 0 13 20 ∷
    printed 0 0 4 111 112 1 0 0 ∷
    printed 1 0 4 112 113 5 0 0 ∷
    printed 30 0 4 113 114 150 0 0 ∷
    printed 31 0 4 114 115 51 0 0 ∷
    printed 32 0 4 115 116 208 0 0 ∷
    printed 33 0 4 116 117 109 0 0 ∷
    printed 3 6 4 117 118 0 0 0 ∷
    []
    ) ∷
    push 0 (0x1F ∷ 0x04 ∷ 0x96 ∷ 0x33 ∷ 0xF8 ∷ 0x6D ∷ 0x1F ∷ 0x05 ∷ 0x69 ∷ 0xCC ∷ 0xFF ∷ 0x92 ∷ 0xF5 ∷ 0x1F ∷ 0x06 ∷ 0x96 ∷ 0x33 ∷ 0xF8 ∷ 0x6D ∷ 0x0A ∷ 0xA7 ∷ 0x1F ∷ 0x07 ∷ 0x69 ∷ 0xCC ∷ 0xFF ∷ 0x92 ∷ 0xF5 ∷ 0x58 ∷ 0xBB ∷ []) 30 (
    printed 4 7 0 100 130 0 1 24 ∷
    printed 47 8 0 100 106 0 2 5 ∷
    printed 0 0 0 100 101 31 0 0 ∷
    printed 1 0 0 101 102 4 0 0 ∷
    printed 2 6 0 102 106 0 0 0 ∷
    printed 47 8 0 106 113 0 6 11 ∷
    printed 0 0 0 106 107 31 0 0 ∷
    printed 1 0 0 107 108 5 0 0 ∷
    printed 16 0 0 108 109 105 0 0 ∷
    printed 17 0 0 109 110 204 0 0 ∷
    printed 19 2 0 110 113 1020661 0 0 ∷
    printed 47 8 0 113 121 0 12 17 ∷
    printed 0 0 0 113 114 31 0 0 ∷
    printed 1 0 0 114 115 6 0 0 ∷
    printed 16 0 0 115 116 150 0 0 ∷
    printed 17 0 0 116 117 51 0 0 ∷
    printed 19 2 0 117 121 4167895719 0 0 ∷
    printed 47 8 0 121 130 0 18 24 ∷
    printed 0 0 0 121 122 31 0 0 ∷
    printed 1 0 0 122 123 7 0 0 ∷
    printed 16 0 0 123 124 105 0 0 ∷
    printed 17 0 0 124 125 204 0 0 ∷
    printed 19 2 0 125 129 4287821144 0 0 ∷
    printed 3 6 0 129 130 0 0 0 ∷
    []
    ) ∷
    push 0 (0x20 ∷ 0x0A ∷ 0x96 ∷ 0x33 ∷ 0xD0 ∷ 0x6D ∷ 0x0A ∷ 0xA7 ∷ 0x44 ∷ 0xE1 ∷ 0xFE ∷ 0x1B ∷ 0x20 ∷ 0x0B ∷ 0x69 ∷ 0xCC ∷ 0x2F ∷ 0x92 ∷ 0xF5 ∷ 0x58 ∷ 0xBB ∷ 0x1E ∷ 0xF9 ∷ 0xE4 ∷ 0x47 ∷ 0x20 ∷ 0x0C ∷ 0x96 ∷ 0x33 ∷ 0xD0 ∷ 0x6D ∷ 0x0A ∷ 0xA7 ∷ 0x44 ∷ 0xE1 ∷ 0xFE ∷ 0x1B ∷ 0xB8 ∷ 0x55 ∷ 0x20 ∷ 0x0D ∷ 0x69 ∷ 0xCC ∷ 0x2F ∷ 0x92 ∷ 0xF5 ∷ 0x58 ∷ 0xBB ∷ 0x1E ∷ 0xF9 ∷ 0xE4 ∷ 0x47 ∷ 0xAA ∷ 0x0D ∷ []) 54 (
    printed 4 7 0 100 154 0 1 27 ∷
    printed 47 8 0 100 112 0 2 5 ∷
    printed 0 0 0 100 101 32 0 0 ∷
    printed 1 0 0 101 102 10 0 0 ∷
    printed 2 6 0 102 112 0 0 0 ∷
    printed 47 8 0 112 125 0 6 12 ∷
    printed 0 0 0 112 113 32 0 0 ∷
    printed 1 0 0 113 114 11 0 0 ∷
    printed 16 0 0 114 115 105 0 0 ∷
    printed 17 0 0 115 116 204 0 0 ∷
    printed 20 6 0 116 122 0 0 0 ∷
    printed 19 2 0 122 125 648263 0 0 ∷
    printed 47 8 0 125 139 0 13 19 ∷
    printed 0 0 0 125 126 32 0 0 ∷
    printed 1 0 0 126 127 12 0 0 ∷
    printed 16 0 0 127 128 150 0 0 ∷
    printed 17 0 0 128 129 51 0 0 ∷
    printed 20 6 0 129 135 0 0 0 ∷
    printed 19 2 0 135 139 4263229525 0 0 ∷
    printed 47 8 0 139 154 0 20 27 ∷
    printed 0 0 0 139 140 32 0 0 ∷
    printed 1 0 0 140 141 13 0 0 ∷
    printed 16 0 0 141 142 105 0 0 ∷
    printed 17 0 0 142 143 204 0 0 ∷
    printed 20 6 0 143 149 0 0 0 ∷
    printed 19 2 0 149 153 4192487338 0 0 ∷
    printed 3 6 0 153 154 0 0 0 ∷
    []
    ) ∷
    push 1 (0x03 ∷ 0x04 ∷ 0x96 ∷ 0x33 ∷ 0xF8 ∷ 0x6D ∷ 0x03 ∷ 0x05 ∷ 0x69 ∷ 0xCC ∷ 0xFF ∷ 0x92 ∷ 0xF5 ∷ 0x03 ∷ 0x06 ∷ 0x96 ∷ 0x33 ∷ 0xF8 ∷ 0x6D ∷ 0x0A ∷ 0xA7 ∷ 0x03 ∷ 0x07 ∷ 0x69 ∷ 0xCC ∷ 0xFF ∷ 0x92 ∷ 0xF5 ∷ 0x58 ∷ 0xBB ∷ []) 30 (
    printed 4 7 1 100 130 0 1 24 ∷
    printed 47 8 1 100 106 0 2 5 ∷
    printed 0 0 1 100 101 3 0 0 ∷
    printed 1 0 1 101 102 4 0 0 ∷
    printed 2 6 1 102 106 0 0 0 ∷
    printed 47 8 1 106 113 0 6 11 ∷
    printed 0 0 1 106 107 3 0 0 ∷
    printed 1 0 1 107 108 5 0 0 ∷
    printed 16 0 1 108 109 105 0 0 ∷
    printed 18 0 1 109 110 204 0 0 ∷
    printed 19 2 1 110 113 1020661 0 0 ∷
    printed 47 8 1 113 121 0 12 17 ∷
    printed 0 0 1 113 114 3 0 0 ∷
    printed 1 0 1 114 115 6 0 0 ∷
    printed 16 0 1 115 116 150 0 0 ∷
    printed 18 0 1 116 117 51 0 0 ∷
    printed 19 2 1 117 121 4167895719 0 0 ∷
    printed 47 8 1 121 130 0 18 24 ∷
    printed 0 0 1 121 122 3 0 0 ∷
    printed 1 0 1 122 123 7 0 0 ∷
    printed 16 0 1 123 124 105 0 0 ∷
    printed 18 0 1 124 125 204 0 0 ∷
    printed 19 2 1 125 129 4287821144 0 0 ∷
    printed 3 6 1 129 130 0 0 0 ∷
    []
    ) ∷
    push 3 (0x01 ∷ 0x02 ∷ 0xFE ∷ 0x33 ∷ 0x01 ∷ 0x03 ∷ 0xF9 ∷ 0xCC ∷ 0x2F ∷ 0x01 ∷ 0x04 ∷ 0xFE ∷ 0x33 ∷ 0xD0 ∷ 0x6D ∷ 0x01 ∷ 0x05 ∷ 0xF9 ∷ 0xCC ∷ 0x2F ∷ 0x92 ∷ 0xF5 ∷ []) 22 (
    printed 4 7 3 100 122 0 1 18 ∷
    printed 47 8 3 100 104 0 2 5 ∷
    printed 0 0 3 100 101 1 0 0 ∷
    printed 1 0 3 101 102 2 0 0 ∷
    printed 2 6 3 102 104 0 0 0 ∷
    printed 47 8 3 104 109 0 6 9 ∷
    printed 0 0 3 104 105 1 0 0 ∷
    printed 1 0 3 105 106 3 0 0 ∷
    printed 19 2 3 106 109 642095 0 0 ∷
    printed 47 8 3 109 115 0 10 13 ∷
    printed 0 0 3 109 110 1 0 0 ∷
    printed 1 0 3 110 111 4 0 0 ∷
    printed 19 2 3 111 115 4264808557 0 0 ∷
    printed 47 8 3 115 122 0 14 18 ∷
    printed 0 0 3 115 116 1 0 0 ∷
    printed 1 0 3 116 117 5 0 0 ∷
    printed 19 2 3 117 121 4190908306 0 0 ∷
    printed 3 6 3 121 122 0 0 0 ∷
    []
    ) ∷
    push 3 (0x03 ∷ 0x04 ∷ 0x96 ∷ 0x33 ∷ 0xF8 ∷ 0x6D ∷ 0x03 ∷ 0x05 ∷ 0x69 ∷ 0xCC ∷ 0xFF ∷ 0x92 ∷ 0xF5 ∷ 0x03 ∷ 0x06 ∷ 0x96 ∷ 0x33 ∷ 0xF8 ∷ 0x6D ∷ 0x0A ∷ 0xA7 ∷ 0x03 ∷ 0x07 ∷ 0x69 ∷ 0xCC ∷ 0xFF ∷ 0x92 ∷ 0xF5 ∷ 0x58 ∷ 0xBB ∷ []) 30 (
    printed 4 7 3 100 130 0 1 24 ∷
    printed 47 8 3 100 106 0 2 5 ∷
    printed 0 0 3 100 101 3 0 0 ∷
    printed 1 0 3 101 102 4 0 0 ∷
    printed 2 6 3 102 106 0 0 0 ∷
    printed 47 8 3 106 113 0 6 11 ∷
    printed 0 0 3 106 107 3 0 0 ∷
    printed 1 0 3 107 108 5 0 0 ∷
    printed 16 0 3 108 109 105 0 0 ∷
    printed 18 0 3 109 110 204 0 0 ∷
    printed 19 2 3 110 113 1020661 0 0 ∷
    printed 47 8 3 113 121 0 12 17 ∷
    printed 0 0 3 113 114 3 0 0 ∷
    printed 1 0 3 114 115 6 0 0 ∷
    printed 16 0 3 115 116 150 0 0 ∷
    printed 18 0 3 116 117 51 0 0 ∷
    printed 19 2 3 117 121 4167895719 0 0 ∷
    printed 47 8 3 121 130 0 18 24 ∷
    printed 0 0 3 121 122 3 0 0 ∷
    printed 1 0 3 122 123 7 0 0 ∷
    printed 16 0 3 123 124 105 0 0 ∷
    printed 18 0 3 124 125 204 0 0 ∷
    printed 19 2 3 125 129 4287821144 0 0 ∷
    printed 3 6 3 129 130 0 0 0 ∷
    []
    ) ∷
    push 0 (0x0B ∷ 0x1F ∷ 0x96 ∷ 0x33 ∷ 0xD0 ∷ 0x6D ∷ 0x0A ∷ 0xA7 ∷ 0x44 ∷ 0xE1 ∷ 0x7E ∷ 0x1B ∷ 0xB8 ∷ 0x55 ∷ 0xF2 ∷ 0x8F ∷ 0x2C ∷ 0xC9 ∷ 0x66 ∷ 0x03 ∷ 0xA0 ∷ 0x3D ∷ 0xDA ∷ 0x77 ∷ 0x14 ∷ 0xB1 ∷ 0x4E ∷ 0xEB ∷ 0x88 ∷ 0x25 ∷ 0xC2 ∷ 0x5F ∷ 0xFC ∷ []) 33 (
    printed 4 7 0 100 133 0 1 5 ∷
    printed 47 8 0 100 133 0 2 5 ∷
    printed 0 0 0 100 101 11 0 0 ∷
    printed 1 0 0 101 102 31 0 0 ∷
    printed 2 6 0 102 133 0 0 0 ∷
    []
    ) ∷
    push 0 (0x0B ∷ 0x20 ∷ 0x96 ∷ 0x33 ∷ 0xD0 ∷ 0x6D ∷ 0x0A ∷ 0xA7 ∷ 0x44 ∷ 0xE1 ∷ 0x7E ∷ 0x1B ∷ 0xB8 ∷ 0x55 ∷ 0xF2 ∷ 0x8F ∷ 0x2C ∷ 0xC9 ∷ 0x66 ∷ 0x03 ∷ 0xA0 ∷ 0x3D ∷ 0xDA ∷ 0x77 ∷ 0x14 ∷ 0xB1 ∷ 0x4E ∷ 0xEB ∷ 0x88 ∷ 0x25 ∷ 0xC2 ∷ 0x5F ∷ 0xFC ∷ 0x99 ∷ []) 34 (
    printed 4 7 0 100 134 0 1 13 ∷
    printed 47 8 0 100 134 0 2 13 ∷
    printed 0 0 0 100 101 11 0 0 ∷
    printed 1 0 0 101 102 32 0 0 ∷
    printed 14 7 0 102 134 0 5 13 ∷
    printed 54 2 0 102 106 2519978093 0 0 ∷
    printed 54 2 0 106 110 178734305 0 0 ∷
    printed 54 2 0 110 114 2115745877 0 0 ∷
    printed 54 2 0 114 118 4069469385 0 0 ∷
    printed 54 2 0 118 122 1711513661 0 0 ∷
    printed 54 2 0 122 126 3665237169 0 0 ∷
    printed 54 2 0 126 130 1324058661 0 0 ∷
    printed 54 2 0 130 134 3261070489 0 0 ∷
    []
    ) ∷
    push 0 (0x0B ∷ 0x21 ∷ 0x96 ∷ 0x33 ∷ 0xD0 ∷ 0x6D ∷ 0x0A ∷ 0xA7 ∷ 0x44 ∷ 0xE1 ∷ 0x7E ∷ 0x1B ∷ 0xB8 ∷ 0x55 ∷ 0xF2 ∷ 0x8F ∷ 0x2C ∷ 0xC9 ∷ 0x66 ∷ 0x03 ∷ 0xA0 ∷ 0x3D ∷ 0xDA ∷ 0x77 ∷ 0x14 ∷ 0xB1 ∷ 0x4E ∷ 0xEB ∷ 0x88 ∷ 0x25 ∷ 0xC2 ∷ 0x5F ∷ 0xFC ∷ 0x99 ∷ 0x36 ∷ []) 35 (
    printed 4 7 0 100 135 0 1 14 ∷
    printed 47 8 0 100 135 0 2 14 ∷
    printed 0 0 0 100 101 11 0 0 ∷
    printed 1 0 0 101 102 33 0 0 ∷
    printed 14 7 0 102 134 0 5 13 ∷
    printed 54 2 0 102 106 2519978093 0 0 ∷
    printed 54 2 0 106 110 178734305 0 0 ∷
    printed 54 2 0 110 114 2115745877 0 0 ∷
    printed 54 2 0 114 118 4069469385 0 0 ∷
    printed 54 2 0 118 122 1711513661 0 0 ∷
    printed 54 2 0 122 126 3665237169 0 0 ∷
    printed 54 2 0 126 130 1324058661 0 0 ∷
    printed 54 2 0 130 134 3261070489 0 0 ∷
    printed 3 6 0 134 135 0 0 0 ∷
    []
    ) ∷
    push 0 (0x0B ∷ 0x23 ∷ 0x96 ∷ 0x33 ∷ 0xD0 ∷ 0x6D ∷ 0x0A ∷ 0xA7 ∷ 0x44 ∷ 0xE1 ∷ 0x7E ∷ 0x1B ∷ 0xB8 ∷ 0x55 ∷ 0xF2 ∷ 0x8F ∷ 0x2C ∷ 0xC9 ∷ 0x66 ∷ 0x03 ∷ 0xA0 ∷ 0x3D ∷ 0xDA ∷ 0x77 ∷ 0x14 ∷ 0xB1 ∷ 0x4E ∷ 0xEB ∷ 0x88 ∷ 0x25 ∷ 0xC2 ∷ 0x5F ∷ 0xFC ∷ 0x99 ∷ 0x36 ∷ 0xD3 ∷ 0x70 ∷ []) 37 (
    printed 4 7 0 100 137 0 1 14 ∷
    printed 47 8 0 100 137 0 2 14 ∷
    printed 0 0 0 100 101 11 0 0 ∷
    printed 1 0 0 101 102 35 0 0 ∷
    printed 14 7 0 102 134 0 5 13 ∷
    printed 54 2 0 102 106 2519978093 0 0 ∷
    printed 54 2 0 106 110 178734305 0 0 ∷
    printed 54 2 0 110 114 2115745877 0 0 ∷
    printed 54 2 0 114 118 4069469385 0 0 ∷
    printed 54 2 0 118 122 1711513661 0 0 ∷
    printed 54 2 0 122 126 3665237169 0 0 ∷
    printed 54 2 0 126 130 1324058661 0 0 ∷
    printed 54 2 0 130 134 3261070489 0 0 ∷
    printed 3 6 0 134 137 0 0 0 ∷
    []
    ) ∷
    push 0 (0x0B ∷ 0x24 ∷ 0x96 ∷ 0x33 ∷ 0xD0 ∷ 0x6D ∷ 0x0A ∷ 0xA7 ∷ 0x44 ∷ 0xE1 ∷ 0x7E ∷ 0x1B ∷ 0xB8 ∷ 0x55 ∷ 0xF2 ∷ 0x8F ∷ 0x2C ∷ 0xC9 ∷ 0x66 ∷ 0x03 ∷ 0xA0 ∷ 0x3D ∷ 0xDA ∷ 0x77 ∷ 0x14 ∷ 0xB1 ∷ 0x4E ∷ 0xEB ∷ 0x88 ∷ 0x25 ∷ 0xC2 ∷ 0x5F ∷ 0xFC ∷ 0x99 ∷ 0x36 ∷ 0xD3 ∷ 0x70 ∷ 0x0D ∷ []) 38 (
    printed 4 7 0 100 138 0 1 14 ∷
    printed 47 8 0 100 138 0 2 14 ∷
    printed 0 0 0 100 101 11 0 0 ∷
    printed 1 0 0 101 102 36 0 0 ∷
    printed 14 7 0 102 134 0 5 13 ∷
    printed 54 2 0 102 106 2519978093 0 0 ∷
    printed 54 2 0 106 110 178734305 0 0 ∷
    printed 54 2 0 110 114 2115745877 0 0 ∷
    printed 54 2 0 114 118 4069469385 0 0 ∷
    printed 54 2 0 118 122 1711513661 0 0 ∷
    printed 54 2 0 122 126 3665237169 0 0 ∷
    printed 54 2 0 126 130 1324058661 0 0 ∷
    printed 54 2 0 130 134 3261070489 0 0 ∷
    printed 3 6 0 134 138 0 0 0 ∷
    []
    ) ∷
    push 1 (0x01 ∷ 0x03 ∷ 0x96 ∷ 0x33 ∷ 0xD0 ∷ 0x01 ∷ 0x04 ∷ 0x69 ∷ 0xCC ∷ 0x2F ∷ 0x92 ∷ 0x01 ∷ 0x05 ∷ 0x96 ∷ 0x33 ∷ 0xD0 ∷ 0x6D ∷ 0x0A ∷ 0x01 ∷ 0x07 ∷ 0x69 ∷ 0xCC ∷ 0x2F ∷ 0x92 ∷ 0xF5 ∷ 0x58 ∷ 0xBB ∷ []) 27 (
    printed 4 7 1 100 127 0 1 22 ∷
    printed 47 8 1 100 105 0 2 5 ∷
    printed 0 0 1 100 101 1 0 0 ∷
    printed 1 0 1 101 102 3 0 0 ∷
    printed 2 6 1 102 105 0 0 0 ∷
    printed 47 8 1 105 111 0 6 10 ∷
    printed 0 0 1 105 106 1 0 0 ∷
    printed 1 0 1 106 107 4 0 0 ∷
    printed 34 7 1 107 111 0 9 10 ∷
    printed 55 2 1 107 111 1774989202 0 0 ∷
    printed 47 8 1 111 118 0 11 16 ∷
    printed 0 0 1 111 112 1 0 0 ∷
    printed 1 0 1 112 113 5 0 0 ∷
    printed 34 7 1 113 117 0 14 15 ∷
    printed 55 2 1 113 117 2519978093 0 0 ∷
    printed 3 6 1 117 118 0 0 0 ∷
    printed 47 8 1 118 127 0 17 22 ∷
    printed 0 0 1 118 119 1 0 0 ∷
    printed 1 0 1 119 120 7 0 0 ∷
    printed 34 7 1 120 124 0 20 21 ∷
    printed 55 2 1 120 124 1774989202 0 0 ∷
    printed 3 6 1 124 127 0 0 0 ∷
    []
    ) ∷
    push 1 (0x01 ∷ 0x08 ∷ 0x96 ∷ 0x33 ∷ 0xD0 ∷ 0x6D ∷ 0x0A ∷ 0xA7 ∷ 0x44 ∷ 0xE1 ∷ 0x01 ∷ 0x0F ∷ 0x69 ∷ 0xCC ∷ 0x2F ∷ 0x92 ∷ 0xF5 ∷ 0x58 ∷ 0xBB ∷ 0x1E ∷ 0x81 ∷ 0xE4 ∷ 0x47 ∷ 0xAA ∷ 0x0D ∷ 0x70 ∷ 0xD3 ∷ []) 27 (
    printed 4 7 1 100 127 0 1 15 ∷
    printed 47 8 1 100 110 0 2 7 ∷
    printed 0 0 1 100 101 1 0 0 ∷
    printed 1 0 1 101 102 8 0 0 ∷
    printed 34 7 1 102 110 0 5 7 ∷
    printed 55 2 1 102 106 2519978093 0 0 ∷
    printed 55 2 1 106 110 178734305 0 0 ∷
    printed 47 8 1 110 127 0 8 15 ∷
    printed 0 0 1 110 111 1 0 0 ∷
    printed 1 0 1 111 112 15 0 0 ∷
    printed 34 7 1 112 124 0 11 14 ∷
    printed 55 2 1 112 116 1774989202 0 0 ∷
    printed 55 2 1 116 120 4116232990 0 0 ∷
    printed 55 2 1 120 124 2179221418 0 0 ∷
    printed 3 6 1 124 127 0 0 0 ∷
    []
    ) ∷
    push 1 (0x02 ∷ 0x07 ∷ 0x96 ∷ 0x33 ∷ 0xD0 ∷ 0x6D ∷ 0x0A ∷ 0xA7 ∷ 0x44 ∷ 0x02 ∷ 0x08 ∷ 0x69 ∷ 0xCC ∷ 0x2F ∷ 0x92 ∷ 0xF5 ∷ 0x58 ∷ 0xBB ∷ 0x1E ∷ 0x02 ∷ 0x09 ∷ 0x96 ∷ 0x33 ∷ 0xD0 ∷ 0x6D ∷ 0x0A ∷ 0xA7 ∷ 0x44 ∷ 0xE1 ∷ 0x7E ∷ 0x02 ∷ 0x0B ∷ 0x69 ∷ 0xCC ∷ 0x2F ∷ 0x92 ∷ 0xF5 ∷ 0x58 ∷ 0xBB ∷ 0x1E ∷ 0x81 ∷ 0xE4 ∷ 0x47 ∷ []) 43 (
    printed 4 7 1 100 143 0 1 22 ∷
    printed 47 8 1 100 109 0 2 5 ∷
    printed 0 0 1 100 101 2 0 0 ∷
    printed 1 0 1 101 102 7 0 0 ∷
    printed 2 6 1 102 109 0 0 0 ∷
    printed 47 8 1 109 119 0 6 10 ∷
    printed 0 0 1 109 110 2 0 0 ∷
    printed 1 0 1 110 111 8 0 0 ∷
    printed 34 7 1 111 119 0 9 10 ∷
    printed 55 3 1 111 119 7623520577459370782 0 0 ∷
    printed 47 8 1 119 130 0 11 16 ∷
    printed 0 0 1 119 120 2 0 0 ∷
    printed 1 0 1 120 121 9 0 0 ∷
    printed 34 7 1 121 129 0 14 15 ∷
    printed 55 3 1 121 129 10823223496250180833 0 0 ∷
    printed 3 6 1 129 130 0 0 0 ∷
    printed 47 8 1 130 143 0 17 22 ∷
    printed 0 0 1 130 131 2 0 0 ∷
    printed 1 0 1 131 132 11 0 0 ∷
    printed 34 7 1 132 140 0 20 21 ∷
    printed 55 3 1 132 140 7623520577459370782 0 0 ∷
    printed 3 6 1 140 143 0 0 0 ∷
    []
    ) ∷
    push 1 (0x02 ∷ 0x10 ∷ 0x96 ∷ 0x33 ∷ 0xD0 ∷ 0x6D ∷ 0x0A ∷ 0xA7 ∷ 0x44 ∷ 0xE1 ∷ 0x7E ∷ 0x1B ∷ 0xB8 ∷ 0x55 ∷ 0xF2 ∷ 0x8F ∷ 0x2C ∷ 0xC9 ∷ []) 18 (
    printed 4 7 1 100 118 0 1 7 ∷
    printed 47 8 1 100 118 0 2 7 ∷
    printed 0 0 1 100 101 2 0 0 ∷
    printed 1 0 1 101 102 16 0 0 ∷
    printed 34 7 1 102 118 0 5 7 ∷
    printed 55 3 1 102 110 10823223496250180833 0 0 ∷
    printed 55 3 1 110 118 9087059352431307977 0 0 ∷
    []
    ) ∷
    push 1 (0x02 ∷ 0x17 ∷ 0x96 ∷ 0x33 ∷ 0xD0 ∷ 0x6D ∷ 0x0A ∷ 0xA7 ∷ 0x44 ∷ 0xE1 ∷ 0x7E ∷ 0x1B ∷ 0xB8 ∷ 0x55 ∷ 0xF2 ∷ 0x8F ∷ 0x2C ∷ 0xC9 ∷ 0x66 ∷ 0x03 ∷ 0xA0 ∷ 0x3D ∷ 0xDA ∷ 0x77 ∷ 0x14 ∷ []) 25 (
    printed 4 7 1 100 125 0 1 8 ∷
    printed 47 8 1 100 125 0 2 8 ∷
    printed 0 0 1 100 101 2 0 0 ∷
    printed 1 0 1 101 102 23 0 0 ∷
    printed 34 7 1 102 118 0 5 7 ∷
    printed 55 3 1 102 110 10823223496250180833 0 0 ∷
    printed 55 3 1 110 118 9087059352431307977 0 0 ∷
    printed 3 6 1 118 125 0 0 0 ∷
    []
    ) ∷
    push 2 (0x02 ∷ 0x00 ∷ 0x02 ∷ 0x01 ∷ 0x69 ∷ 0x02 ∷ 0x02 ∷ 0x96 ∷ 0x33 ∷ 0x02 ∷ 0x04 ∷ 0x69 ∷ 0xCC ∷ 0x2F ∷ 0x92 ∷ []) 15 (
    printed 4 7 2 100 115 0 1 22 ∷
    printed 47 8 2 100 102 0 2 5 ∷
    printed 0 0 2 100 101 2 0 0 ∷
    printed 1 0 2 101 102 0 0 0 ∷
    printed 2 6 2 102 102 0 0 0 ∷
    printed 47 8 2 102 105 0 6 10 ∷
    printed 0 0 2 102 103 2 0 0 ∷
    printed 1 0 2 103 104 1 0 0 ∷
    printed 16 0 2 104 105 105 0 0 ∷
    printed 40 7 2 105 105 0 10 10 ∷
    printed 47 8 2 105 109 0 11 16 ∷
    printed 0 0 2 105 106 2 0 0 ∷
    printed 1 0 2 106 107 2 0 0 ∷
    printed 16 0 2 107 108 150 0 0 ∷
    printed 40 7 2 108 108 0 15 15 ∷
    printed 3 6 2 108 109 0 0 0 ∷
    printed 47 8 2 109 115 0 17 22 ∷
    printed 0 0 2 109 110 2 0 0 ∷
    printed 1 0 2 110 111 4 0 0 ∷
    printed 16 0 2 111 112 105 0 0 ∷
    printed 40 7 2 112 112 0 21 21 ∷
    printed 3 6 2 112 115 0 0 0 ∷
    []
    ) ∷
    push 2 (0x13 ∷ 0x00 ∷ 0x13 ∷ 0x01 ∷ 0x69 ∷ 0x13 ∷ 0x03 ∷ 0x96 ∷ 0x33 ∷ 0xD0 ∷ 0x13 ∷ 0x09 ∷ 0x69 ∷ 0xCC ∷ 0x2F ∷ 0x92 ∷ 0xF5 ∷ 0x58 ∷ 0xBB ∷ 0x1E ∷ 0x81 ∷ []) 21 (
    printed 4 7 2 100 121 0 1 30 ∷
    printed 47 8 2 100 102 0 2 5 ∷
    printed 0 0 2 100 101 19 0 0 ∷
    printed 1 0 2 101 102 0 0 0 ∷
    printed 41 7 2 102 102 0 5 5 ∷
    printed 47 8 2 102 105 0 6 10 ∷
    printed 0 0 2 102 103 19 0 0 ∷
    printed 1 0 2 103 104 1 0 0 ∷
    printed 41 7 2 104 105 0 9 10 ∷
    printed 56 0 2 104 105 105 0 0 ∷
    printed 47 8 2 105 110 0 11 17 ∷
    printed 0 0 2 105 106 19 0 0 ∷
    printed 1 0 2 106 107 3 0 0 ∷
    printed 41 7 2 107 110 0 14 17 ∷
    printed 56 0 2 107 108 150 0 0 ∷
    printed 56 0 2 108 109 51 0 0 ∷
    printed 56 0 2 109 110 208 0 0 ∷
    printed 47 8 2 110 121 0 18 30 ∷
    printed 0 0 2 110 111 19 0 0 ∷
    printed 1 0 2 111 112 9 0 0 ∷
    printed 41 7 2 112 121 0 21 30 ∷
    printed 56 0 2 112 113 105 0 0 ∷
    printed 56 0 2 113 114 204 0 0 ∷
    printed 56 0 2 114 115 47 0 0 ∷
    printed 56 0 2 115 116 146 0 0 ∷
    printed 56 0 2 116 117 245 0 0 ∷
    printed 56 0 2 117 118 88 0 0 ∷
    printed 56 0 2 118 119 187 0 0 ∷
    printed 56 0 2 119 120 30 0 0 ∷
    printed 56 0 2 120 121 129 0 0 ∷
    []
    ) ∷
    push 2 (0x16 ∷ 0x00 ∷ 0x16 ∷ 0x01 ∷ 0x69 ∷ 0x16 ∷ 0x02 ∷ 0x96 ∷ 0x33 ∷ 0x16 ∷ 0x04 ∷ 0x69 ∷ 0xCC ∷ 0x2F ∷ 0x92 ∷ []) 15 (
    printed 4 7 2 100 115 0 1 22 ∷
    printed 47 8 2 100 102 0 2 5 ∷
    printed 0 0 2 100 101 22 0 0 ∷
    printed 1 0 2 101 102 0 0 0 ∷
    printed 2 6 2 102 102 0 0 0 ∷
    printed 47 8 2 102 105 0 6 10 ∷
    printed 0 0 2 102 103 22 0 0 ∷
    printed 1 0 2 103 104 1 0 0 ∷
    printed 16 0 2 104 105 105 0 0 ∷
    printed 40 7 2 105 105 0 10 10 ∷
    printed 47 8 2 105 109 0 11 16 ∷
    printed 0 0 2 105 106 22 0 0 ∷
    printed 1 0 2 106 107 2 0 0 ∷
    printed 16 0 2 107 108 150 0 0 ∷
    printed 40 7 2 108 108 0 15 15 ∷
    printed 3 6 2 108 109 0 0 0 ∷
    printed 47 8 2 109 115 0 17 22 ∷
    printed 0 0 2 109 110 22 0 0 ∷
    printed 1 0 2 110 111 4 0 0 ∷
    printed 16 0 2 111 112 105 0 0 ∷
    printed 40 7 2 112 112 0 21 21 ∷
    printed 3 6 2 112 115 0 0 0 ∷
    []
    ) ∷
    push 2 (0x17 ∷ 0x00 ∷ 0x17 ∷ 0x01 ∷ 0x69 ∷ 0x17 ∷ 0x03 ∷ 0x96 ∷ 0x33 ∷ 0xD0 ∷ []) 10 (
    printed 4 7 2 100 110 0 1 18 ∷
    printed 47 8 2 100 102 0 2 5 ∷
    printed 0 0 2 100 101 23 0 0 ∷
    printed 1 0 2 101 102 0 0 0 ∷
    printed 42 7 2 102 102 0 5 5 ∷
    printed 47 8 2 102 105 0 6 10 ∷
    printed 0 0 2 102 103 23 0 0 ∷
    printed 1 0 2 103 104 1 0 0 ∷
    printed 42 7 2 104 104 0 9 9 ∷
    printed 3 6 2 104 105 0 0 0 ∷
    printed 47 8 2 105 110 0 11 18 ∷
    printed 0 0 2 105 106 23 0 0 ∷
    printed 1 0 2 106 107 3 0 0 ∷
    printed 42 7 2 107 109 0 14 17 ∷
    printed 51 8 2 107 109 0 15 17 ∷
    printed 52 0 2 107 108 150 0 0 ∷
    printed 53 0 2 108 109 51 0 0 ∷
    printed 3 6 2 109 110 0 0 0 ∷
    []
    ) ∷
    push 2 (0x17 ∷ 0x02 ∷ 0x96 ∷ 0x33 ∷ 0x17 ∷ 0x05 ∷ 0x69 ∷ 0xCC ∷ 0x2F ∷ 0x92 ∷ 0xF5 ∷ 0x17 ∷ 0x0A ∷ 0x96 ∷ 0x33 ∷ 0xD0 ∷ 0x6D ∷ 0x0A ∷ 0xA7 ∷ 0x44 ∷ 0xE1 ∷ 0x7E ∷ 0x1B ∷ []) 23 (
    printed 4 7 2 100 123 0 1 38 ∷
    printed 47 8 2 100 104 0 2 8 ∷
    printed 0 0 2 100 101 23 0 0 ∷
    printed 1 0 2 101 102 2 0 0 ∷
    printed 42 7 2 102 104 0 5 8 ∷
    printed 51 8 2 102 104 0 6 8 ∷
    printed 52 0 2 102 103 150 0 0 ∷
    printed 53 0 2 103 104 51 0 0 ∷
    printed 47 8 2 104 111 0 9 19 ∷
    printed 0 0 2 104 105 23 0 0 ∷
    printed 1 0 2 105 106 5 0 0 ∷
    printed 42 7 2 106 110 0 12 18 ∷
    printed 51 8 2 106 108 0 13 15 ∷
    printed 52 0 2 106 107 105 0 0 ∷
    printed 53 0 2 107 108 204 0 0 ∷
    printed 51 8 2 108 110 0 16 18 ∷
    printed 52 0 2 108 109 47 0 0 ∷
    printed 53 0 2 109 110 146 0 0 ∷
    printed 3 6 2 110 111 0 0 0 ∷
    printed 47 8 2 111 123 0 20 38 ∷
    printed 0 0 2 111 112 23 0 0 ∷
    printed 1 0 2 112 113 10 0 0 ∷
    printed 42 7 2 113 123 0 23 38 ∷
    printed 51 8 2 113 115 0 24 26 ∷
    printed 52 0 2 113 114 150 0 0 ∷
    printed 53 0 2 114 115 51 0 0 ∷
    printed 51 8 2 115 117 0 27 29 ∷
    printed 52 0 2 115 116 208 0 0 ∷
    printed 53 0 2 116 117 109 0 0 ∷
    printed 51 8 2 117 119 0 30 32 ∷
    printed 52 0 2 117 118 10 0 0 ∷
    printed 53 0 2 118 119 167 0 0 ∷
    printed 51 8 2 119 121 0 33 35 ∷
    printed 52 0 2 119 120 68 0 0 ∷
    printed 53 0 2 120 121 225 0 0 ∷
    printed 51 8 2 121 123 0 36 38 ∷
    printed 52 0 2 121 122 126 0 0 ∷
    printed 53 0 2 122 123 27 0 0 ∷
    []
    ) ∷
    push 2 (0x19 ∷ 0x01 ∷ 0x96 ∷ 0x19 ∷ 0x02 ∷ 0x69 ∷ 0xCC ∷ 0x19 ∷ 0x03 ∷ 0x96 ∷ 0x33 ∷ 0xD0 ∷ []) 12 (
    printed 4 7 2 100 112 0 1 15 ∷
    printed 47 8 2 100 103 0 2 5 ∷
    printed 0 0 2 100 101 25 0 0 ∷
    printed 1 0 2 101 102 1 0 0 ∷
    printed 2 6 2 102 103 0 0 0 ∷
    printed 47 8 2 103 107 0 6 9 ∷
    printed 0 0 2 103 104 25 0 0 ∷
    printed 1 0 2 104 105 2 0 0 ∷
    printed 44 1 2 105 107 27084 0 0 ∷
    printed 47 8 2 107 112 0 10 15 ∷
    printed 0 0 2 107 108 25 0 0 ∷
    printed 1 0 2 108 109 3 0 0 ∷
    printed 44 1 2 109 111 38451 0 0 ∷
    printed 4 7 5 111 111 0 14 14 ∷
    printed 3 6 5 111 112 0 0 0 ∷
    []
    ) ∷
    push 0 (0x21 ∷ 0x04 ∷ 0x80 ∷ 0x33 ∷ 0x50 ∷ 0x6D ∷ 0x21 ∷ 0x04 ∷ 0x7F ∷ 0xB3 ∷ 0xD0 ∷ 0xED ∷ []) 12 (
    printed 4 7 0 100 112 0 1 11 ∷
    printed 47 8 0 100 106 0 2 6 ∷
    printed 0 0 0 100 101 33 0 0 ∷
    printed 1 0 0 101 102 4 0 0 ∷
    printed 21 0 0 102 103 1 0 0 ∷
    printed 22 2 0 103 106 3362925 0 0 ∷
    printed 47 8 0 106 112 0 7 11 ∷
    printed 0 0 0 106 107 33 0 0 ∷
    printed 1 0 0 107 108 4 0 0 ∷
    printed 21 0 0 108 109 0 0 0 ∷
    printed 22 2 0 109 112 11784429 0 0 ∷
    []
    ) ∷
    push 0 (0x22 ∷ 0x08 ∷ 0x80 ∷ 0x33 ∷ 0x50 ∷ 0x6D ∷ 0x0A ∷ 0x27 ∷ 0x44 ∷ 0x61 ∷ 0x22 ∷ 0x08 ∷ 0x7F ∷ 0xB3 ∷ 0xD0 ∷ 0xED ∷ 0x8A ∷ 0xA7 ∷ 0xC4 ∷ 0xE1 ∷ []) 20 (
    printed 4 7 0 100 120 0 1 13 ∷
    printed 47 8 0 100 110 0 2 7 ∷
    printed 0 0 0 100 101 34 0 0 ∷
    printed 1 0 0 101 102 8 0 0 ∷
    printed 21 0 0 102 103 1 0 0 ∷
    printed 23 2 0 103 106 3362925 0 0 ∷
    printed 24 2 0 107 110 2573409 0 0 ∷
    printed 47 8 0 110 120 0 8 13 ∷
    printed 0 0 0 110 111 34 0 0 ∷
    printed 1 0 0 111 112 8 0 0 ∷
    printed 21 0 0 112 113 0 0 0 ∷
    printed 23 2 0 113 116 11784429 0 0 ∷
    printed 24 2 0 117 120 10994913 0 0 ∷
    []
    ) ∷
    push 0 (0x24 ∷ 0x04 ∷ 0x80 ∷ 0x33 ∷ 0x50 ∷ 0x6D ∷ 0x24 ∷ 0x04 ∷ 0x7F ∷ 0xB3 ∷ 0xD0 ∷ 0xED ∷ []) 12 (
    printed 4 7 0 100 112 0 1 11 ∷
    printed 47 8 0 100 106 0 2 6 ∷
    printed 0 0 0 100 101 36 0 0 ∷
    printed 1 0 0 101 102 4 0 0 ∷
    printed 21 0 0 102 103 1 0 0 ∷
    printed 26 2 0 103 106 3362925 0 0 ∷
    printed 47 8 0 106 112 0 7 11 ∷
    printed 0 0 0 106 107 36 0 0 ∷
    printed 1 0 0 107 108 4 0 0 ∷
    printed 21 0 0 108 109 0 0 0 ∷
    printed 26 2 0 109 112 11784429 0 0 ∷
    []
    ) ∷
    push 1 (0x04 ∷ 0x01 ∷ 0x80 ∷ 0x04 ∷ 0x01 ∷ 0x40 ∷ 0x04 ∷ 0x01 ∷ 0x20 ∷ 0x04 ∷ 0x01 ∷ 0x1F ∷ 0x04 ∷ 0x01 ∷ 0x7F ∷ 0x04 ∷ 0x01 ∷ 0x3F ∷ 0x04 ∷ 0x01 ∷ 0xBF ∷ 0x04 ∷ 0x01 ∷ 0xDF ∷ 0x04 ∷ 0x01 ∷ 0xFF ∷ []) 27 (
    printed 4 7 1 100 127 0 1 64 ∷
    printed 47 8 1 100 103 0 2 8 ∷
    printed 0 0 1 100 101 4 0 0 ∷
    printed 1 0 1 101 102 1 0 0 ∷
    printed 16 0 1 102 103 128 0 0 ∷
    printed 35 0 1 102 103 1 0 0 ∷
    printed 36 0 1 102 103 0 0 0 ∷
    printed 37 0 1 102 103 0 0 0 ∷
    printed 47 8 1 103 106 0 9 15 ∷
    printed 0 0 1 103 104 4 0 0 ∷
    printed 1 0 1 104 105 1 0 0 ∷
    printed 16 0 1 105 106 64 0 0 ∷
    printed 35 0 1 105 106 0 0 0 ∷
    printed 36 0 1 105 106 1 0 0 ∷
    printed 37 0 1 105 106 0 0 0 ∷
    printed 47 8 1 106 109 0 16 22 ∷
    printed 0 0 1 106 107 4 0 0 ∷
    printed 1 0 1 107 108 1 0 0 ∷
    printed 16 0 1 108 109 32 0 0 ∷
    printed 35 0 1 108 109 0 0 0 ∷
    printed 36 0 1 108 109 0 0 0 ∷
    printed 37 0 1 108 109 1 0 0 ∷
    printed 47 8 1 109 112 0 23 29 ∷
    printed 0 0 1 109 110 4 0 0 ∷
    printed 1 0 1 110 111 1 0 0 ∷
    printed 16 0 1 111 112 31 0 0 ∷
    printed 35 0 1 111 112 0 0 0 ∷
    printed 36 0 1 111 112 0 0 0 ∷
    printed 37 0 1 111 112 0 0 0 ∷
    printed 47 8 1 112 115 0 30 36 ∷
    printed 0 0 1 112 113 4 0 0 ∷
    printed 1 0 1 113 114 1 0 0 ∷
    printed 16 0 1 114 115 127 0 0 ∷
    printed 35 0 1 114 115 0 0 0 ∷
    printed 36 0 1 114 115 1 0 0 ∷
    printed 37 0 1 114 115 1 0 0 ∷
    printed 47 8 1 115 118 0 37 43 ∷
    printed 0 0 1 115 116 4 0 0 ∷
    printed 1 0 1 116 117 1 0 0 ∷
    printed 16 0 1 117 118 63 0 0 ∷
    printed 35 0 1 117 118 0 0 0 ∷
    printed 36 0 1 117 118 0 0 0 ∷
    printed 37 0 1 117 118 1 0 0 ∷
    printed 47 8 1 118 121 0 44 50 ∷
    printed 0 0 1 118 119 4 0 0 ∷
    printed 1 0 1 119 120 1 0 0 ∷
    printed 16 0 1 120 121 191 0 0 ∷
    printed 35 0 1 120 121 1 0 0 ∷
    printed 36 0 1 120 121 0 0 0 ∷
    printed 37 0 1 120 121 1 0 0 ∷
    printed 47 8 1 121 124 0 51 57 ∷
    printed 0 0 1 121 122 4 0 0 ∷
    printed 1 0 1 122 123 1 0 0 ∷
    printed 16 0 1 123 124 223 0 0 ∷
    printed 35 0 1 123 124 1 0 0 ∷
    printed 36 0 1 123 124 1 0 0 ∷
    printed 37 0 1 123 124 0 0 0 ∷
    printed 47 8 1 124 127 0 58 64 ∷
    printed 0 0 1 124 125 4 0 0 ∷
    printed 1 0 1 125 126 1 0 0 ∷
    printed 16 0 1 126 127 255 0 0 ∷
    printed 35 0 1 126 127 1 0 0 ∷
    printed 36 0 1 126 127 1 0 0 ∷
    printed 37 0 1 126 127 1 0 0 ∷
    []
    ) ∷
    push 0 (0x2B ∷ 0x14 ∷ 0x96 ∷ 0x33 ∷ 0xD0 ∷ 0x6D ∷ 0x0A ∷ 0xA7 ∷ 0x44 ∷ 0xE1 ∷ 0x7E ∷ 0x1B ∷ 0xB8 ∷ 0x55 ∷ 0xF2 ∷ 0x8F ∷ 0x2C ∷ 0xC9 ∷ 0x66 ∷ 0x03 ∷ 0xA0 ∷ 0x3D ∷ []) 22 (
    printed 4 7 0 100 122 0 1 5 ∷
    printed 47 8 0 100 122 0 2 5 ∷
    printed 0 0 0 100 101 43 0 0 ∷
    printed 1 0 0 101 102 20 0 0 ∷
    printed 2 6 0 102 122 0 0 0 ∷
    []
    ) ∷
    push 0 (0x2B ∷ 0x15 ∷ 0x96 ∷ 0x33 ∷ 0xD0 ∷ 0x6D ∷ 0x0A ∷ 0xA7 ∷ 0x44 ∷ 0xE1 ∷ 0x7E ∷ 0x1B ∷ 0xB8 ∷ 0x55 ∷ 0xF2 ∷ 0x8F ∷ 0x2C ∷ 0xC9 ∷ 0x66 ∷ 0x03 ∷ 0xA0 ∷ 0x3D ∷ 0xDA ∷ []) 23 (
    printed 4 7 0 100 123 0 1 9 ∷
    printed 47 8 0 100 123 0 2 9 ∷
    printed 0 0 0 100 101 43 0 0 ∷
    printed 1 0 0 101 102 21 0 0 ∷
    printed 16 0 0 102 103 150 0 0 ∷
    printed 18 0 0 103 104 51 0 0 ∷
    printed 17 0 0 104 105 208 0 0 ∷
    printed 28 1 0 105 107 27914 0 0 ∷
    printed 29 5 0 107 123 0 0 0 ∷
    []
    ) ∷
    push 0 (0x2B ∷ 0x16 ∷ 0x69 ∷ 0xCC ∷ 0x2F ∷ 0x92 ∷ 0xF5 ∷ 0x58 ∷ 0xBB ∷ 0x1E ∷ 0x81 ∷ 0xE4 ∷ 0x47 ∷ 0xAA ∷ 0x0D ∷ 0x70 ∷ 0xD3 ∷ 0x36 ∷ 0x99 ∷ 0xFC ∷ 0x5F ∷ 0xC2 ∷ 0x25 ∷ 0x00 ∷ []) 24 (
    printed 4 7 0 100 124 0 1 9 ∷
    printed 47 8 0 100 124 0 2 9 ∷
    printed 0 0 0 100 101 43 0 0 ∷
    printed 1 0 0 101 102 22 0 0 ∷
    printed 16 0 0 102 103 105 0 0 ∷
    printed 18 0 0 103 104 204 0 0 ∷
    printed 17 0 0 104 105 47 0 0 ∷
    printed 28 1 0 105 107 37621 0 0 ∷
    printed 29 5 0 107 123 0 0 0 ∷
    []
    ) ∷
    push 0 (0x2B ∷ 0x19 ∷ 0x96 ∷ 0x33 ∷ 0xD0 ∷ 0x6D ∷ 0x0A ∷ 0xA7 ∷ 0x44 ∷ 0xE1 ∷ 0x7E ∷ 0x1B ∷ 0xB8 ∷ 0x55 ∷ 0xF2 ∷ 0x8F ∷ 0x2C ∷ 0xC9 ∷ 0x66 ∷ 0x03 ∷ 0xA0 ∷ 0x3D ∷ 0xDA ∷ 0x00 ∷ 0x01 ∷ 0x00 ∷ 0xB6 ∷ []) 27 (
    printed 4 7 0 100 127 0 1 10 ∷
    printed 47 8 0 100 127 0 2 10 ∷
    printed 0 0 0 100 101 43 0 0 ∷
    printed 1 0 0 101 102 25 0 0 ∷
    printed 16 0 0 102 103 150 0 0 ∷
    printed 18 0 0 103 104 51 0 0 ∷
    printed 17 0 0 104 105 208 0 0 ∷
    printed 28 1 0 105 107 27914 0 0 ∷
    printed 29 5 0 107 123 0 0 0 ∷
    printed 3 6 0 124 127 0 0 0 ∷
    []
    ) ∷
    push 0 (0x2B ∷ 0x16 ∷ 0x69 ∷ 0xCC ∷ 0x2F ∷ 0x92 ∷ 0xF5 ∷ 0x58 ∷ 0xBB ∷ 0x1E ∷ 0x81 ∷ 0xE4 ∷ 0x47 ∷ 0xAA ∷ 0x0D ∷ 0x70 ∷ 0xD3 ∷ 0x36 ∷ 0x99 ∷ 0xFC ∷ 0x5F ∷ 0xC2 ∷ 0x25 ∷ 0x01 ∷ []) 24 (
    printed 4 7 0 100 124 0 1 10 ∷
    printed 47 8 0 100 124 0 2 10 ∷
    printed 0 0 0 100 101 43 0 0 ∷
    printed 1 0 0 101 102 22 0 0 ∷
    printed 16 0 0 102 103 105 0 0 ∷
    printed 18 0 0 103 104 204 0 0 ∷
    printed 17 0 0 104 105 47 0 0 ∷
    printed 28 1 0 105 107 37621 0 0 ∷
    printed 29 5 0 107 123 0 0 0 ∷
    printed 3 6 0 123 124 0 0 0 ∷
    []
    ) ∷
    push 0 (0x2B ∷ 0x1C ∷ 0x96 ∷ 0x33 ∷ 0xD0 ∷ 0x6D ∷ 0x0A ∷ 0xA7 ∷ 0x44 ∷ 0xE1 ∷ 0x7E ∷ 0x1B ∷ 0xB8 ∷ 0x55 ∷ 0xF2 ∷ 0x8F ∷ 0x2C ∷ 0xC9 ∷ 0x66 ∷ 0x03 ∷ 0xA0 ∷ 0x3D ∷ 0xDA ∷ 0x07 ∷ 0x01 ∷ 0x04 ∷ 0xA8 ∷ 0x53 ∷ 0x1C ∷ 0xE7 ∷ []) 30 (
    printed 4 7 0 100 130 0 1 10 ∷
    printed 47 8 0 100 130 0 2 10 ∷
    printed 0 0 0 100 101 43 0 0 ∷
    printed 1 0 0 101 102 28 0 0 ∷
    printed 16 0 0 102 103 150 0 0 ∷
    printed 18 0 0 103 104 51 0 0 ∷
    printed 17 0 0 104 105 208 0 0 ∷
    printed 28 1 0 105 107 27914 0 0 ∷
    printed 29 5 0 107 123 0 0 0 ∷
    printed 3 6 0 123 130 0 0 0 ∷
    []
    ) ∷
    push 0 (0x2B ∷ 0x1C ∷ 0x69 ∷ 0xCC ∷ 0x2F ∷ 0x92 ∷ 0xF5 ∷ 0x58 ∷ 0xBB ∷ 0x1E ∷ 0x81 ∷ 0xE4 ∷ 0x47 ∷ 0xAA ∷ 0x0D ∷ 0x70 ∷ 0xD3 ∷ 0x36 ∷ 0x99 ∷ 0xFC ∷ 0x5F ∷ 0xC2 ∷ 0x25 ∷ 0x06 ∷ 0x01 ∷ 0x04 ∷ 0xA8 ∷ 0x53 ∷ 0x1C ∷ 0xE7 ∷ []) 30 (
    printed 4 7 0 100 130 0 1 17 ∷
    printed 47 8 0 100 130 0 2 17 ∷
    printed 0 0 0 100 101 43 0 0 ∷
    printed 1 0 0 101 102 28 0 0 ∷
    printed 16 0 0 102 103 105 0 0 ∷
    printed 18 0 0 103 104 204 0 0 ∷
    printed 17 0 0 104 105 47 0 0 ∷
    printed 28 1 0 105 107 37621 0 0 ∷
    printed 29 5 0 107 123 0 0 0 ∷
    printed 4 7 4 124 130 0 10 17 ∷
    printed 47 8 4 124 130 0 11 17 ∷
    printed 0 0 4 124 125 1 0 0 ∷
    printed 1 0 4 125 126 4 0 0 ∷
    printed 30 0 4 126 127 168 0 0 ∷
    printed 31 0 4 127 128 83 0 0 ∷
    printed 32 0 4 128 129 28 0 0 ∷
    printed 33 0 4 129 130 231 0 0 ∷
    []
    ) ∷
    push 0 (0x2B ∷ 0x22 ∷ 0x96 ∷ 0x33 ∷ 0xD0 ∷ 0x6D ∷ 0x0A ∷ 0xA7 ∷ 0x44 ∷ 0xE1 ∷ 0x7E ∷ 0x1B ∷ 0xB8 ∷ 0x55 ∷ 0xF2 ∷ 0x8F ∷ 0x2C ∷ 0xC9 ∷ 0x66 ∷ 0x03 ∷ 0xA0 ∷ 0x3D ∷ 0xDA ∷ 0x08 ∷ 0x01 ∷ 0x04 ∷ 0x57 ∷ 0xAC ∷ 0xE3 ∷ 0x18 ∷ 0x01 ∷ 0x04 ∷ 0xB6 ∷ 0x2D ∷ 0x71 ∷ 0xC9 ∷ []) 36 (
    printed 4 7 0 100 136 0 1 18 ∷
    printed 47 8 0 100 136 0 2 18 ∷
    printed 0 0 0 100 101 43 0 0 ∷
    printed 1 0 0 101 102 34 0 0 ∷
    printed 16 0 0 102 103 150 0 0 ∷
    printed 18 0 0 103 104 51 0 0 ∷
    printed 17 0 0 104 105 208 0 0 ∷
    printed 28 1 0 105 107 27914 0 0 ∷
    printed 29 5 0 107 123 0 0 0 ∷
    printed 4 7 4 124 130 0 10 17 ∷
    printed 47 8 4 124 130 0 11 17 ∷
    printed 0 0 4 124 125 1 0 0 ∷
    printed 1 0 4 125 126 4 0 0 ∷
    printed 30 0 4 126 127 87 0 0 ∷
    printed 31 0 4 127 128 172 0 0 ∷
    printed 32 0 4 128 129 227 0 0 ∷
    printed 33 0 4 129 130 24 0 0 ∷
    printed 3 6 0 130 136 0 0 0 ∷
    []
    ) ∷
    push 0 (0x2B ∷ 0x1C ∷ 0x69 ∷ 0xCC ∷ 0x2F ∷ 0x92 ∷ 0xF5 ∷ 0x58 ∷ 0xBB ∷ 0x1E ∷ 0x81 ∷ 0xE4 ∷ 0x47 ∷ 0xAA ∷ 0x0D ∷ 0x70 ∷ 0xD3 ∷ 0x36 ∷ 0x99 ∷ 0xFC ∷ 0x5F ∷ 0xC2 ∷ 0x25 ∷ 0x06 ∷ 0x02 ∷ 0x04 ∷ 0xA8 ∷ 0x53 ∷ 0x1C ∷ 0xE7 ∷ []) 30 (
    printed 4 7 0 100 130 0 1 14 ∷
    printed 47 8 0 100 130 0 2 14 ∷
    printed 0 0 0 100 101 43 0 0 ∷
    printed 1 0 0 101 102 28 0 0 ∷
    printed 16 0 0 102 103 105 0 0 ∷
    printed 18 0 0 103 104 204 0 0 ∷
    printed 17 0 0 104 105 47 0 0 ∷
    printed 28 1 0 105 107 37621 0 0 ∷
    printed 29 5 0 107 123 0 0 0 ∷
    printed 4 7 4 124 130 0 10 14 ∷
    printed 47 8 4 124 130 0 11 14 ∷
    printed 0 0 4 124 125 2 0 0 ∷
    printed 1 0 4 125 126 4 0 0 ∷
    printed 2 6 4 126 130 0 0 0 ∷
    []
    ) ∷
    push 0 (0x2B ∷ 0x1B ∷ 0x96 ∷ 0x33 ∷ 0xD0 ∷ 0x6D ∷ 0x0A ∷ 0xA7 ∷ 0x44 ∷ 0xE1 ∷ 0x7E ∷ 0x1B ∷ 0xB8 ∷ 0x55 ∷ 0xF2 ∷ 0x8F ∷ 0x2C ∷ 0xC9 ∷ 0x66 ∷ 0x03 ∷ 0xA0 ∷ 0x3D ∷ 0xDA ∷ 0x05 ∷ 0x01 ∷ 0x03 ∷ 0xA8 ∷ 0x53 ∷ 0x1C ∷ []) 29 (
    printed 4 7 0 100 129 0 1 14 ∷
    printed 47 8 0 100 129 0 2 14 ∷
    printed 0 0 0 100 101 43 0 0 ∷
    printed 1 0 0 101 102 27 0 0 ∷
    printed 16 0 0 102 103 150 0 0 ∷
    printed 18 0 0 103 104 51 0 0 ∷
    printed 17 0 0 104 105 208 0 0 ∷
    printed 28 1 0 105 107 27914 0 0 ∷
    printed 29 5 0 107 123 0 0 0 ∷
    printed 4 7 4 124 129 0 10 14 ∷
    printed 47 8 4 124 129 0 11 14 ∷
    printed 0 0 4 124 125 1 0 0 ∷
    printed 1 0 4 125 126 3 0 0 ∷
    printed 2 6 4 126 129 0 0 0 ∷
    []
    ) ∷
    push 0 (0x2B ∷ 0x23 ∷ 0x69 ∷ 0xCC ∷ 0x2F ∷ 0x92 ∷ 0xF5 ∷ 0x58 ∷ 0xBB ∷ 0x1E ∷ 0x81 ∷ 0xE4 ∷ 0x47 ∷ 0xAA ∷ 0x0D ∷ 0x70 ∷ 0xD3 ∷ 0x36 ∷ 0x99 ∷ 0xFC ∷ 0x5F ∷ 0xC2 ∷ 0x25 ∷ 0x0D ∷ 0x01 ∷ 0x04 ∷ 0xA8 ∷ 0x53 ∷ 0x1C ∷ 0xE7 ∷ 0x01 ∷ 0x05 ∷ 0x57 ∷ 0xAC ∷ 0xE3 ∷ 0x18 ∷ 0xB6 ∷ []) 37 (
    printed 4 7 0 100 137 0 1 25 ∷
    printed 47 8 0 100 137 0 2 25 ∷
    printed 0 0 0 100 101 43 0 0 ∷
    printed 1 0 0 101 102 35 0 0 ∷
    printed 16 0 0 102 103 105 0 0 ∷
    printed 18 0 0 103 104 204 0 0 ∷
    printed 17 0 0 104 105 47 0 0 ∷
    printed 28 1 0 105 107 37621 0 0 ∷
    printed 29 5 0 107 123 0 0 0 ∷
    printed 4 7 4 124 137 0 10 25 ∷
    printed 47 8 4 124 130 0 11 17 ∷
    printed 0 0 4 124 125 1 0 0 ∷
    printed 1 0 4 125 126 4 0 0 ∷
    printed 30 0 4 126 127 168 0 0 ∷
    printed 31 0 4 127 128 83 0 0 ∷
    printed 32 0 4 128 129 28 0 0 ∷
    printed 33 0 4 129 130 231 0 0 ∷
    printed 47 8 4 130 137 0 18 25 ∷
    printed 0 0 4 130 131 1 0 0 ∷
    printed 1 0 4 131 132 5 0 0 ∷
    printed 30 0 4 132 133 87 0 0 ∷
    printed 31 0 4 133 134 172 0 0 ∷
    printed 32 0 4 134 135 227 0 0 ∷
    printed 33 0 4 135 136 24 0 0 ∷
    printed 3 6 4 136 137 0 0 0 ∷
    []
    ) ∷
    push 0 (0x2B ∷ 0x18 ∷ 0x96 ∷ 0x33 ∷ 0xD0 ∷ 0x6D ∷ 0x0A ∷ 0xA7 ∷ 0x44 ∷ 0xE1 ∷ 0x7E ∷ 0x1B ∷ 0xB8 ∷ 0x55 ∷ 0xF2 ∷ 0x8F ∷ 0x2C ∷ 0xC9 ∷ 0x66 ∷ 0x03 ∷ 0xA0 ∷ 0x3D ∷ 0xDA ∷ 0x01 ∷ 0x01 ∷ 0x00 ∷ []) 26 (
    printed 4 7 0 100 126 0 1 11 ∷
    printed 47 8 0 100 126 0 2 11 ∷
    printed 0 0 0 100 101 43 0 0 ∷
    printed 1 0 0 101 102 24 0 0 ∷
    printed 16 0 0 102 103 150 0 0 ∷
    printed 18 0 0 103 104 51 0 0 ∷
    printed 17 0 0 104 105 208 0 0 ∷
    printed 28 1 0 105 107 27914 0 0 ∷
    printed 29 5 0 107 123 0 0 0 ∷
    printed 4 7 4 124 124 0 10 10 ∷
    printed 3 6 0 124 126 0 0 0 ∷
    []
    ) ∷
    push 0 (0x2C ∷ 0x1A ∷ 0x96 ∷ 0x33 ∷ 0xD0 ∷ 0x6D ∷ 0x0A ∷ 0xA7 ∷ 0x44 ∷ 0xE1 ∷ 0x7E ∷ 0x1B ∷ 0xB8 ∷ 0x55 ∷ 0xF2 ∷ 0x8F ∷ 0x2C ∷ 0xC9 ∷ 0x66 ∷ 0x03 ∷ 0xA0 ∷ 0x3D ∷ 0xDA ∷ 0x77 ∷ 0x14 ∷ 0xB1 ∷ 0x4E ∷ 0xEB ∷ []) 28 (
    printed 4 7 0 100 128 0 1 5 ∷
    printed 47 8 0 100 128 0 2 5 ∷
    printed 0 0 0 100 101 44 0 0 ∷
    printed 1 0 0 101 102 26 0 0 ∷
    printed 2 6 0 102 128 0 0 0 ∷
    []
    ) ∷
    push 0 (0x2C ∷ 0x1B ∷ 0x96 ∷ 0x33 ∷ 0xD0 ∷ 0x6D ∷ 0x0A ∷ 0xA7 ∷ 0x44 ∷ 0xE1 ∷ 0x7E ∷ 0x1B ∷ 0xB8 ∷ 0x55 ∷ 0xF2 ∷ 0x8F ∷ 0x2C ∷ 0xC9 ∷ 0x66 ∷ 0x03 ∷ 0xA0 ∷ 0x3D ∷ 0xDA ∷ 0x77 ∷ 0x14 ∷ 0xB1 ∷ 0x4E ∷ 0xEB ∷ 0x88 ∷ []) 29 (
    printed 4 7 0 100 129 0 1 10 ∷
    printed 47 8 0 100 129 0 2 10 ∷
    printed 0 0 0 100 101 44 0 0 ∷
    printed 1 0 0 101 102 27 0 0 ∷
    printed 20 6 0 102 108 0 0 0 ∷
    printed 16 0 0 108 109 68 0 0 ∷
    printed 18 0 0 109 110 225 0 0 ∷
    printed 17 0 0 110 111 126 0 0 ∷
    printed 28 1 0 111 113 7096 0 0 ∷
    printed 29 5 0 113 129 0 0 0 ∷
    []
    ) ∷
    push 0 (0x2C ∷ 0x1C ∷ 0x69 ∷ 0xCC ∷ 0x2F ∷ 0x92 ∷ 0xF5 ∷ 0x58 ∷ 0xBB ∷ 0x1E ∷ 0x81 ∷ 0xE4 ∷ 0x47 ∷ 0xAA ∷ 0x0D ∷ 0x70 ∷ 0xD3 ∷ 0x36 ∷ 0x99 ∷ 0xFC ∷ 0x5F ∷ 0xC2 ∷ 0x25 ∷ 0x88 ∷ 0xEB ∷ 0x4E ∷ 0xB1 ∷ 0x14 ∷ 0x77 ∷ 0x00 ∷ []) 30 (
    printed 4 7 0 100 130 0 1 10 ∷
    printed 47 8 0 100 130 0 2 10 ∷
    printed 0 0 0 100 101 44 0 0 ∷
    printed 1 0 0 101 102 28 0 0 ∷
    printed 20 6 0 102 108 0 0 0 ∷
    printed 16 0 0 108 109 187 0 0 ∷
    printed 18 0 0 109 110 30 0 0 ∷
    printed 17 0 0 110 111 129 0 0 ∷
    printed 28 1 0 111 113 58439 0 0 ∷
    printed 29 5 0 113 129 0 0 0 ∷
    []
    ) ∷
    push 0 (0x2C ∷ 0x1F ∷ 0x96 ∷ 0x33 ∷ 0xD0 ∷ 0x6D ∷ 0x0A ∷ 0xA7 ∷ 0x44 ∷ 0xE1 ∷ 0x7E ∷ 0x1B ∷ 0xB8 ∷ 0x55 ∷ 0xF2 ∷ 0x8F ∷ 0x2C ∷ 0xC9 ∷ 0x66 ∷ 0x03 ∷ 0xA0 ∷ 0x3D ∷ 0xDA ∷ 0x77 ∷ 0x14 ∷ 0xB1 ∷ 0x4E ∷ 0xEB ∷ 0x88 ∷ 0x00 ∷ 0x01 ∷ 0x00 ∷ 0xB6 ∷ []) 33 (
    printed 4 7 0 100 133 0 1 11 ∷
    printed 47 8 0 100 133 0 2 11 ∷
    printed 0 0 0 100 101 44 0 0 ∷
    printed 1 0 0 101 102 31 0 0 ∷
    printed 20 6 0 102 108 0 0 0 ∷
    printed 16 0 0 108 109 68 0 0 ∷
    printed 18 0 0 109 110 225 0 0 ∷
    printed 17 0 0 110 111 126 0 0 ∷
    printed 28 1 0 111 113 7096 0 0 ∷
    printed 29 5 0 113 129 0 0 0 ∷
    printed 3 6 0 130 133 0 0 0 ∷
    []
    ) ∷
    push 0 (0x2C ∷ 0x1C ∷ 0x69 ∷ 0xCC ∷ 0x2F ∷ 0x92 ∷ 0xF5 ∷ 0x58 ∷ 0xBB ∷ 0x1E ∷ 0x81 ∷ 0xE4 ∷ 0x47 ∷ 0xAA ∷ 0x0D ∷ 0x70 ∷ 0xD3 ∷ 0x36 ∷ 0x99 ∷ 0xFC ∷ 0x5F ∷ 0xC2 ∷ 0x25 ∷ 0x88 ∷ 0xEB ∷ 0x4E ∷ 0xB1 ∷ 0x14 ∷ 0x77 ∷ 0x01 ∷ []) 30 (
    printed 4 7 0 100 130 0 1 11 ∷
    printed 47 8 0 100 130 0 2 11 ∷
    printed 0 0 0 100 101 44 0 0 ∷
    printed 1 0 0 101 102 28 0 0 ∷
    printed 20 6 0 102 108 0 0 0 ∷
    printed 16 0 0 108 109 187 0 0 ∷
    printed 18 0 0 109 110 30 0 0 ∷
    printed 17 0 0 110 111 129 0 0 ∷
    printed 28 1 0 111 113 58439 0 0 ∷
    printed 29 5 0 113 129 0 0 0 ∷
    printed 3 6 0 129 130 0 0 0 ∷
    []
    ) ∷
    push 0 (0x2C ∷ 0x22 ∷ 0x96 ∷ 0x33 ∷ 0xD0 ∷ 0x6D ∷ 0x0A ∷ 0xA7 ∷ 0x44 ∷ 0xE1 ∷ 0x7E ∷ 0x1B ∷ 0xB8 ∷ 0x55 ∷ 0xF2 ∷ 0x8F ∷ 0x2C ∷ 0xC9 ∷ 0x66 ∷ 0x03 ∷ 0xA0 ∷ 0x3D ∷ 0xDA ∷ 0x77 ∷ 0x14 ∷ 0xB1 ∷ 0x4E ∷ 0xEB ∷ 0x88 ∷ 0x07 ∷ 0x01 ∷ 0x04 ∷ 0xA8 ∷ 0x53 ∷ 0x1C ∷ 0xE7 ∷ []) 36 (
    printed 4 7 0 100 136 0 1 11 ∷
    printed 47 8 0 100 136 0 2 11 ∷
    printed 0 0 0 100 101 44 0 0 ∷
    printed 1 0 0 101 102 34 0 0 ∷
    printed 20 6 0 102 108 0 0 0 ∷
    printed 16 0 0 108 109 68 0 0 ∷
    printed 18 0 0 109 110 225 0 0 ∷
    printed 17 0 0 110 111 126 0 0 ∷
    printed 28 1 0 111 113 7096 0 0 ∷
    printed 29 5 0 113 129 0 0 0 ∷
    printed 3 6 0 129 136 0 0 0 ∷
    []
    ) ∷
    push 0 (0x2C ∷ 0x22 ∷ 0x69 ∷ 0xCC ∷ 0x2F ∷ 0x92 ∷ 0xF5 ∷ 0x58 ∷ 0xBB ∷ 0x1E ∷ 0x81 ∷ 0xE4 ∷ 0x47 ∷ 0xAA ∷ 0x0D ∷ 0x70 ∷ 0xD3 ∷ 0x36 ∷ 0x99 ∷ 0xFC ∷ 0x5F ∷ 0xC2 ∷ 0x25 ∷ 0x88 ∷ 0xEB ∷ 0x4E ∷ 0xB1 ∷ 0x14 ∷ 0x77 ∷ 0x06 ∷ 0x01 ∷ 0x04 ∷ 0xA8 ∷ 0x53 ∷ 0x1C ∷ 0xE7 ∷ []) 36 (
    printed 4 7 0 100 136 0 1 18 ∷
    printed 47 8 0 100 136 0 2 18 ∷
    printed 0 0 0 100 101 44 0 0 ∷
    printed 1 0 0 101 102 34 0 0 ∷
    printed 20 6 0 102 108 0 0 0 ∷
    printed 16 0 0 108 109 187 0 0 ∷
    printed 18 0 0 109 110 30 0 0 ∷
    printed 17 0 0 110 111 129 0 0 ∷
    printed 28 1 0 111 113 58439 0 0 ∷
    printed 29 5 0 113 129 0 0 0 ∷
    printed 4 7 4 130 136 0 11 18 ∷
    printed 47 8 4 130 136 0 12 18 ∷
    printed 0 0 4 130 131 1 0 0 ∷
    printed 1 0 4 131 132 4 0 0 ∷
    printed 30 0 4 132 133 168 0 0 ∷
    printed 31 0 4 133 134 83 0 0 ∷
    printed 32 0 4 134 135 28 0 0 ∷
    printed 33 0 4 135 136 231 0 0 ∷
    []
    ) ∷
    push 0 (0x2C ∷ 0x28 ∷ 0x96 ∷ 0x33 ∷ 0xD0 ∷ 0x6D ∷ 0x0A ∷ 0xA7 ∷ 0x44 ∷ 0xE1 ∷ 0x7E ∷ 0x1B ∷ 0xB8 ∷ 0x55 ∷ 0xF2 ∷ 0x8F ∷ 0x2C ∷ 0xC9 ∷ 0x66 ∷ 0x03 ∷ 0xA0 ∷ 0x3D ∷ 0xDA ∷ 0x77 ∷ 0x14 ∷ 0xB1 ∷ 0x4E ∷ 0xEB ∷ 0x88 ∷ 0x08 ∷ 0x01 ∷ 0x04 ∷ 0x57 ∷ 0xAC ∷ 0xE3 ∷ 0x18 ∷ 0x01 ∷ 0x04 ∷ 0xB6 ∷ 0x2D ∷ 0x71 ∷ 0xC9 ∷ []) 42 (
    printed 4 7 0 100 142 0 1 19 ∷
    printed 47 8 0 100 142 0 2 19 ∷
    printed 0 0 0 100 101 44 0 0 ∷
    printed 1 0 0 101 102 40 0 0 ∷
    printed 20 6 0 102 108 0 0 0 ∷
    printed 16 0 0 108 109 68 0 0 ∷
    printed 18 0 0 109 110 225 0 0 ∷
    printed 17 0 0 110 111 126 0 0 ∷
    printed 28 1 0 111 113 7096 0 0 ∷
    printed 29 5 0 113 129 0 0 0 ∷
    printed 4 7 4 130 136 0 11 18 ∷
    printed 47 8 4 130 136 0 12 18 ∷
    printed 0 0 4 130 131 1 0 0 ∷
    printed 1 0 4 131 132 4 0 0 ∷
    printed 30 0 4 132 133 87 0 0 ∷
    printed 31 0 4 133 134 172 0 0 ∷
    printed 32 0 4 134 135 227 0 0 ∷
    printed 33 0 4 135 136 24 0 0 ∷
    printed 3 6 0 136 142 0 0 0 ∷
    []
    ) ∷
    push 0 (0x2C ∷ 0x22 ∷ 0x69 ∷ 0xCC ∷ 0x2F ∷ 0x92 ∷ 0xF5 ∷ 0x58 ∷ 0xBB ∷ 0x1E ∷ 0x81 ∷ 0xE4 ∷ 0x47 ∷ 0xAA ∷ 0x0D ∷ 0x70 ∷ 0xD3 ∷ 0x36 ∷ 0x99 ∷ 0xFC ∷ 0x5F ∷ 0xC2 ∷ 0x25 ∷ 0x88 ∷ 0xEB ∷ 0x4E ∷ 0xB1 ∷ 0x14 ∷ 0x77 ∷ 0x06 ∷ 0x02 ∷ 0x04 ∷ 0xA8 ∷ 0x53 ∷ 0x1C ∷ 0xE7 ∷ []) 36 (
    printed 4 7 0 100 136 0 1 15 ∷
    printed 47 8 0 100 136 0 2 15 ∷
    printed 0 0 0 100 101 44 0 0 ∷
    printed 1 0 0 101 102 34 0 0 ∷
    printed 20 6 0 102 108 0 0 0 ∷
    printed 16 0 0 108 109 187 0 0 ∷
    printed 18 0 0 109 110 30 0 0 ∷
    printed 17 0 0 110 111 129 0 0 ∷
    printed 28 1 0 111 113 58439 0 0 ∷
    printed 29 5 0 113 129 0 0 0 ∷
    printed 4 7 4 130 136 0 11 15 ∷
    printed 47 8 4 130 136 0 12 15 ∷
    printed 0 0 4 130 131 2 0 0 ∷
    printed 1 0 4 131 132 4 0 0 ∷
    printed 2 6 4 132 136 0 0 0 ∷
    []
    ) ∷
    push 0 (0x2C ∷ 0x21 ∷ 0x96 ∷ 0x33 ∷ 0xD0 ∷ 0x6D ∷ 0x0A ∷ 0xA7 ∷ 0x44 ∷ 0xE1 ∷ 0x7E ∷ 0x1B ∷ 0xB8 ∷ 0x55 ∷ 0xF2 ∷ 0x8F ∷ 0x2C ∷ 0xC9 ∷ 0x66 ∷ 0x03 ∷ 0xA0 ∷ 0x3D ∷ 0xDA ∷ 0x77 ∷ 0x14 ∷ 0xB1 ∷ 0x4E ∷ 0xEB ∷ 0x88 ∷ 0x05 ∷ 0x01 ∷ 0x03 ∷ 0xA8 ∷ 0x53 ∷ 0x1C ∷ []) 35 (
    printed 4 7 0 100 135 0 1 15 ∷
    printed 47 8 0 100 135 0 2 15 ∷
    printed 0 0 0 100 101 44 0 0 ∷
    printed 1 0 0 101 102 33 0 0 ∷
    printed 20 6 0 102 108 0 0 0 ∷
    printed 16 0 0 108 109 68 0 0 ∷
    printed 18 0 0 109 110 225 0 0 ∷
    printed 17 0 0 110 111 126 0 0 ∷
    printed 28 1 0 111 113 7096 0 0 ∷
    printed 29 5 0 113 129 0 0 0 ∷
    printed 4 7 4 130 135 0 11 15 ∷
    printed 47 8 4 130 135 0 12 15 ∷
    printed 0 0 4 130 131 1 0 0 ∷
    printed 1 0 4 131 132 3 0 0 ∷
    printed 2 6 4 132 135 0 0 0 ∷
    []
    ) ∷
    push 0 (0x2C ∷ 0x29 ∷ 0x69 ∷ 0xCC ∷ 0x2F ∷ 0x92 ∷ 0xF5 ∷ 0x58 ∷ 0xBB ∷ 0x1E ∷ 0x81 ∷ 0xE4 ∷ 0x47 ∷ 0xAA ∷ 0x0D ∷ 0x70 ∷ 0xD3 ∷ 0x36 ∷ 0x99 ∷ 0xFC ∷ 0x5F ∷ 0xC2 ∷ 0x25 ∷ 0x88 ∷ 0xEB ∷ 0x4E ∷ 0xB1 ∷ 0x14 ∷ 0x77 ∷ 0x0D ∷ 0x01 ∷ 0x04 ∷ 0xA8 ∷ 0x53 ∷ 0x1C ∷ 0xE7 ∷ 0x01 ∷ 0x05 ∷ 0x57 ∷ 0xAC ∷ 0xE3 ∷ 0x18 ∷ 0xB6 ∷ []) 43 (
    printed 4 7 0 100 143 0 1 26 ∷
    printed 47 8 0 100 143 0 2 26 ∷
    printed 0 0 0 100 101 44 0 0 ∷
    printed 1 0 0 101 102 41 0 0 ∷
    printed 20 6 0 102 108 0 0 0 ∷
    printed 16 0 0 108 109 187 0 0 ∷
    printed 18 0 0 109 110 30 0 0 ∷
    printed 17 0 0 110 111 129 0 0 ∷
    printed 28 1 0 111 113 58439 0 0 ∷
    printed 29 5 0 113 129 0 0 0 ∷
    printed 4 7 4 130 143 0 11 26 ∷
    printed 47 8 4 130 136 0 12 18 ∷
    printed 0 0 4 130 131 1 0 0 ∷
    printed 1 0 4 131 132 4 0 0 ∷
    printed 30 0 4 132 133 168 0 0 ∷
    printed 31 0 4 133 134 83 0 0 ∷
    printed 32 0 4 134 135 28 0 0 ∷
    printed 33 0 4 135 136 231 0 0 ∷
    printed 47 8 4 136 143 0 19 26 ∷
    printed 0 0 4 136 137 1 0 0 ∷
    printed 1 0 4 137 138 5 0 0 ∷
    printed 30 0 4 138 139 87 0 0 ∷
    printed 31 0 4 139 140 172 0 0 ∷
    printed 32 0 4 140 141 227 0 0 ∷
    printed 33 0 4 141 142 24 0 0 ∷
    printed 3 6 4 142 143 0 0 0 ∷
    []
    ) ∷
    push 0 (0x2C ∷ 0x1E ∷ 0x96 ∷ 0x33 ∷ 0xD0 ∷ 0x6D ∷ 0x0A ∷ 0xA7 ∷ 0x44 ∷ 0xE1 ∷ 0x7E ∷ 0x1B ∷ 0xB8 ∷ 0x55 ∷ 0xF2 ∷ 0x8F ∷ 0x2C ∷ 0xC9 ∷ 0x66 ∷ 0x03 ∷ 0xA0 ∷ 0x3D ∷ 0xDA ∷ 0x77 ∷ 0x14 ∷ 0xB1 ∷ 0x4E ∷ 0xEB ∷ 0x88 ∷ 0x01 ∷ 0x01 ∷ 0x00 ∷ []) 32 (
    printed 4 7 0 100 132 0 1 12 ∷
    printed 47 8 0 100 132 0 2 12 ∷
    printed 0 0 0 100 101 44 0 0 ∷
    printed 1 0 0 101 102 30 0 0 ∷
    printed 20 6 0 102 108 0 0 0 ∷
    printed 16 0 0 108 109 68 0 0 ∷
    printed 18 0 0 109 110 225 0 0 ∷
    printed 17 0 0 110 111 126 0 0 ∷
    printed 28 1 0 111 113 7096 0 0 ∷
    printed 29 5 0 113 129 0 0 0 ∷
    printed 4 7 4 130 130 0 11 11 ∷
    printed 3 6 0 130 132 0 0 0 ∷
    []
    ) ∷
    push 1 (0x05 ∷ 0x12 ∷ 0x96 ∷ 0x33 ∷ 0xD0 ∷ 0x6D ∷ 0x0A ∷ 0xA7 ∷ 0x44 ∷ 0xE1 ∷ 0x7E ∷ 0x1B ∷ 0xB8 ∷ 0x55 ∷ 0xF2 ∷ 0x8F ∷ 0x2C ∷ 0xC9 ∷ 0x66 ∷ 0x03 ∷ []) 20 (
    printed 4 7 1 100 120 0 1 5 ∷
    printed 47 8 1 100 120 0 2 5 ∷
    printed 0 0 1 100 101 5 0 0 ∷
    printed 1 0 1 101 102 18 0 0 ∷
    printed 2 6 1 102 120 0 0 0 ∷
    []
    ) ∷
    push 1 (0x05 ∷ 0x13 ∷ 0x96 ∷ 0x33 ∷ 0xD0 ∷ 0x6D ∷ 0x0A ∷ 0xA7 ∷ 0x44 ∷ 0xE1 ∷ 0x7E ∷ 0x1B ∷ 0xB8 ∷ 0x55 ∷ 0xF2 ∷ 0x8F ∷ 0x2C ∷ 0xC9 ∷ 0x66 ∷ 0x03 ∷ 0xA0 ∷ []) 21 (
    printed 4 7 1 100 121 0 1 7 ∷
    printed 47 8 1 100 121 0 2 7 ∷
    printed 0 0 1 100 101 5 0 0 ∷
    printed 1 0 1 101 102 19 0 0 ∷
    printed 16 0 1 102 103 150 0 0 ∷
    printed 28 1 1 103 105 13264 0 0 ∷
    printed 29 5 1 105 121 0 0 0 ∷
    []
    ) ∷
    push 1 (0x05 ∷ 0x14 ∷ 0x69 ∷ 0xCC ∷ 0x2F ∷ 0x92 ∷ 0xF5 ∷ 0x58 ∷ 0xBB ∷ 0x1E ∷ 0x81 ∷ 0xE4 ∷ 0x47 ∷ 0xAA ∷ 0x0D ∷ 0x70 ∷ 0xD3 ∷ 0x36 ∷ 0x99 ∷ 0xFC ∷ 0x5F ∷ 0x00 ∷ []) 22 (
    printed 4 7 1 100 122 0 1 7 ∷
    printed 47 8 1 100 122 0 2 7 ∷
    printed 0 0 1 100 101 5 0 0 ∷
    printed 1 0 1 101 102 20 0 0 ∷
    printed 16 0 1 102 103 105 0 0 ∷
    printed 28 1 1 103 105 52271 0 0 ∷
    printed 29 5 1 105 121 0 0 0 ∷
    []
    ) ∷
    push 1 (0x05 ∷ 0x17 ∷ 0x96 ∷ 0x33 ∷ 0xD0 ∷ 0x6D ∷ 0x0A ∷ 0xA7 ∷ 0x44 ∷ 0xE1 ∷ 0x7E ∷ 0x1B ∷ 0xB8 ∷ 0x55 ∷ 0xF2 ∷ 0x8F ∷ 0x2C ∷ 0xC9 ∷ 0x66 ∷ 0x03 ∷ 0xA0 ∷ 0x00 ∷ 0x01 ∷ 0x00 ∷ 0xB6 ∷ []) 25 (
    printed 4 7 1 100 125 0 1 8 ∷
    printed 47 8 1 100 125 0 2 8 ∷
    printed 0 0 1 100 101 5 0 0 ∷
    printed 1 0 1 101 102 23 0 0 ∷
    printed 16 0 1 102 103 150 0 0 ∷
    printed 28 1 1 103 105 13264 0 0 ∷
    printed 29 5 1 105 121 0 0 0 ∷
    printed 3 6 1 122 125 0 0 0 ∷
    []
    ) ∷
    push 1 (0x05 ∷ 0x14 ∷ 0x69 ∷ 0xCC ∷ 0x2F ∷ 0x92 ∷ 0xF5 ∷ 0x58 ∷ 0xBB ∷ 0x1E ∷ 0x81 ∷ 0xE4 ∷ 0x47 ∷ 0xAA ∷ 0x0D ∷ 0x70 ∷ 0xD3 ∷ 0x36 ∷ 0x99 ∷ 0xFC ∷ 0x5F ∷ 0x01 ∷ []) 22 (
    printed 4 7 1 100 122 0 1 8 ∷
    printed 47 8 1 100 122 0 2 8 ∷
    printed 0 0 1 100 101 5 0 0 ∷
    printed 1 0 1 101 102 20 0 0 ∷
    printed 16 0 1 102 103 105 0 0 ∷
    printed 28 1 1 103 105 52271 0 0 ∷
    printed 29 5 1 105 121 0 0 0 ∷
    printed 3 6 1 121 122 0 0 0 ∷
    []
    ) ∷
    push 1 (0x05 ∷ 0x1A ∷ 0x96 ∷ 0x33 ∷ 0xD0 ∷ 0x6D ∷ 0x0A ∷ 0xA7 ∷ 0x44 ∷ 0xE1 ∷ 0x7E ∷ 0x1B ∷ 0xB8 ∷ 0x55 ∷ 0xF2 ∷ 0x8F ∷ 0x2C ∷ 0xC9 ∷ 0x66 ∷ 0x03 ∷ 0xA0 ∷ 0x07 ∷ 0x01 ∷ 0x04 ∷ 0xA8 ∷ 0x53 ∷ 0x1C ∷ 0xE7 ∷ []) 28 (
    printed 4 7 1 100 128 0 1 8 ∷
    printed 47 8 1 100 128 0 2 8 ∷
    printed 0 0 1 100 101 5 0 0 ∷
    printed 1 0 1 101 102 26 0 0 ∷
    printed 16 0 1 102 103 150 0 0 ∷
    printed 28 1 1 103 105 13264 0 0 ∷
    printed 29 5 1 105 121 0 0 0 ∷
    printed 3 6 1 121 128 0 0 0 ∷
    []
    ) ∷
    push 1 (0x05 ∷ 0x1A ∷ 0x69 ∷ 0xCC ∷ 0x2F ∷ 0x92 ∷ 0xF5 ∷ 0x58 ∷ 0xBB ∷ 0x1E ∷ 0x81 ∷ 0xE4 ∷ 0x47 ∷ 0xAA ∷ 0x0D ∷ 0x70 ∷ 0xD3 ∷ 0x36 ∷ 0x99 ∷ 0xFC ∷ 0x5F ∷ 0x06 ∷ 0x01 ∷ 0x04 ∷ 0xA8 ∷ 0x53 ∷ 0x1C ∷ 0xE7 ∷ []) 28 (
    printed 4 7 1 100 128 0 1 15 ∷
    printed 47 8 1 100 128 0 2 15 ∷
    printed 0 0 1 100 101 5 0 0 ∷
    printed 1 0 1 101 102 26 0 0 ∷
    printed 16 0 1 102 103 105 0 0 ∷
    printed 28 1 1 103 105 52271 0 0 ∷
    printed 29 5 1 105 121 0 0 0 ∷
    printed 4 7 4 122 128 0 8 15 ∷
    printed 47 8 4 122 128 0 9 15 ∷
    printed 0 0 4 122 123 1 0 0 ∷
    printed 1 0 4 123 124 4 0 0 ∷
    printed 30 0 4 124 125 168 0 0 ∷
    printed 31 0 4 125 126 83 0 0 ∷
    printed 32 0 4 126 127 28 0 0 ∷
    printed 33 0 4 127 128 231 0 0 ∷
    []
    ) ∷
    push 1 (0x05 ∷ 0x20 ∷ 0x96 ∷ 0x33 ∷ 0xD0 ∷ 0x6D ∷ 0x0A ∷ 0xA7 ∷ 0x44 ∷ 0xE1 ∷ 0x7E ∷ 0x1B ∷ 0xB8 ∷ 0x55 ∷ 0xF2 ∷ 0x8F ∷ 0x2C ∷ 0xC9 ∷ 0x66 ∷ 0x03 ∷ 0xA0 ∷ 0x08 ∷ 0x01 ∷ 0x04 ∷ 0x57 ∷ 0xAC ∷ 0xE3 ∷ 0x18 ∷ 0x01 ∷ 0x04 ∷ 0xB6 ∷ 0x2D ∷ 0x71 ∷ 0xC9 ∷ []) 34 (
    printed 4 7 1 100 134 0 1 16 ∷
    printed 47 8 1 100 134 0 2 16 ∷
    printed 0 0 1 100 101 5 0 0 ∷
    printed 1 0 1 101 102 32 0 0 ∷
    printed 16 0 1 102 103 150 0 0 ∷
    printed 28 1 1 103 105 13264 0 0 ∷
    printed 29 5 1 105 121 0 0 0 ∷
    printed 4 7 4 122 128 0 8 15 ∷
    printed 47 8 4 122 128 0 9 15 ∷
    printed 0 0 4 122 123 1 0 0 ∷
    printed 1 0 4 123 124 4 0 0 ∷
    printed 30 0 4 124 125 87 0 0 ∷
    printed 31 0 4 125 126 172 0 0 ∷
    printed 32 0 4 126 127 227 0 0 ∷
    printed 33 0 4 127 128 24 0 0 ∷
    printed 3 6 1 128 134 0 0 0 ∷
    []
    ) ∷
    push 1 (0x05 ∷ 0x1A ∷ 0x69 ∷ 0xCC ∷ 0x2F ∷ 0x92 ∷ 0xF5 ∷ 0x58 ∷ 0xBB ∷ 0x1E ∷ 0x81 ∷ 0xE4 ∷ 0x47 ∷ 0xAA ∷ 0x0D ∷ 0x70 ∷ 0xD3 ∷ 0x36 ∷ 0x99 ∷ 0xFC ∷ 0x5F ∷ 0x06 ∷ 0x02 ∷ 0x04 ∷ 0xA8 ∷ 0x53 ∷ 0x1C ∷ 0xE7 ∷ []) 28 (
    printed 4 7 1 100 128 0 1 12 ∷
    printed 47 8 1 100 128 0 2 12 ∷
    printed 0 0 1 100 101 5 0 0 ∷
    printed 1 0 1 101 102 26 0 0 ∷
    printed 16 0 1 102 103 105 0 0 ∷
    printed 28 1 1 103 105 52271 0 0 ∷
    printed 29 5 1 105 121 0 0 0 ∷
    printed 4 7 4 122 128 0 8 12 ∷
    printed 47 8 4 122 128 0 9 12 ∷
    printed 0 0 4 122 123 2 0 0 ∷
    printed 1 0 4 123 124 4 0 0 ∷
    printed 2 6 4 124 128 0 0 0 ∷
    []
    ) ∷
    push 1 (0x05 ∷ 0x19 ∷ 0x96 ∷ 0x33 ∷ 0xD0 ∷ 0x6D ∷ 0x0A ∷ 0xA7 ∷ 0x44 ∷ 0xE1 ∷ 0x7E ∷ 0x1B ∷ 0xB8 ∷ 0x55 ∷ 0xF2 ∷ 0x8F ∷ 0x2C ∷ 0xC9 ∷ 0x66 ∷ 0x03 ∷ 0xA0 ∷ 0x05 ∷ 0x01 ∷ 0x03 ∷ 0xA8 ∷ 0x53 ∷ 0x1C ∷ []) 27 (
    printed 4 7 1 100 127 0 1 12 ∷
    printed 47 8 1 100 127 0 2 12 ∷
    printed 0 0 1 100 101 5 0 0 ∷
    printed 1 0 1 101 102 25 0 0 ∷
    printed 16 0 1 102 103 150 0 0 ∷
    printed 28 1 1 103 105 13264 0 0 ∷
    printed 29 5 1 105 121 0 0 0 ∷
    printed 4 7 4 122 127 0 8 12 ∷
    printed 47 8 4 122 127 0 9 12 ∷
    printed 0 0 4 122 123 1 0 0 ∷
    printed 1 0 4 123 124 3 0 0 ∷
    printed 2 6 4 124 127 0 0 0 ∷
    []
    ) ∷
    push 1 (0x05 ∷ 0x21 ∷ 0x69 ∷ 0xCC ∷ 0x2F ∷ 0x92 ∷ 0xF5 ∷ 0x58 ∷ 0xBB ∷ 0x1E ∷ 0x81 ∷ 0xE4 ∷ 0x47 ∷ 0xAA ∷ 0x0D ∷ 0x70 ∷ 0xD3 ∷ 0x36 ∷ 0x99 ∷ 0xFC ∷ 0x5F ∷ 0x0D ∷ 0x01 ∷ 0x04 ∷ 0xA8 ∷ 0x53 ∷ 0x1C ∷ 0xE7 ∷ 0x01 ∷ 0x05 ∷ 0x57 ∷ 0xAC ∷ 0xE3 ∷ 0x18 ∷ 0xB6 ∷ []) 35 (
    printed 4 7 1 100 135 0 1 23 ∷
    printed 47 8 1 100 135 0 2 23 ∷
    printed 0 0 1 100 101 5 0 0 ∷
    printed 1 0 1 101 102 33 0 0 ∷
    printed 16 0 1 102 103 105 0 0 ∷
    printed 28 1 1 103 105 52271 0 0 ∷
    printed 29 5 1 105 121 0 0 0 ∷
    printed 4 7 4 122 135 0 8 23 ∷
    printed 47 8 4 122 128 0 9 15 ∷
    printed 0 0 4 122 123 1 0 0 ∷
    printed 1 0 4 123 124 4 0 0 ∷
    printed 30 0 4 124 125 168 0 0 ∷
    printed 31 0 4 125 126 83 0 0 ∷
    printed 32 0 4 126 127 28 0 0 ∷
    printed 33 0 4 127 128 231 0 0 ∷
    printed 47 8 4 128 135 0 16 23 ∷
    printed 0 0 4 128 129 1 0 0 ∷
    printed 1 0 4 129 130 5 0 0 ∷
    printed 30 0 4 130 131 87 0 0 ∷
    printed 31 0 4 131 132 172 0 0 ∷
    printed 32 0 4 132 133 227 0 0 ∷
    printed 33 0 4 133 134 24 0 0 ∷
    printed 3 6 4 134 135 0 0 0 ∷
    []
    ) ∷
    push 1 (0x05 ∷ 0x16 ∷ 0x96 ∷ 0x33 ∷ 0xD0 ∷ 0x6D ∷ 0x0A ∷ 0xA7 ∷ 0x44 ∷ 0xE1 ∷ 0x7E ∷ 0x1B ∷ 0xB8 ∷ 0x55 ∷ 0xF2 ∷ 0x8F ∷ 0x2C ∷ 0xC9 ∷ 0x66 ∷ 0x03 ∷ 0xA0 ∷ 0x01 ∷ 0x01 ∷ 0x00 ∷ []) 24 (
    printed 4 7 1 100 124 0 1 9 ∷
    printed 47 8 1 100 124 0 2 9 ∷
    printed 0 0 1 100 101 5 0 0 ∷
    printed 1 0 1 101 102 22 0 0 ∷
    printed 16 0 1 102 103 150 0 0 ∷
    printed 28 1 1 103 105 13264 0 0 ∷
    printed 29 5 1 105 121 0 0 0 ∷
    printed 4 7 4 122 122 0 8 8 ∷
    printed 3 6 1 122 124 0 0 0 ∷
    []
    ) ∷
    push 2 (0x02 ∷ 0x09 ∷ 0xC5 ∷ 0x8A ∷ 0x3B ∷ 0x5C ∷ 0x01 ∷ 0x03 ∷ 0xF9 ∷ 0x47 ∷ 0xD2 ∷ []) 11 (
    printed 4 7 2 100 111 0 1 9 ∷
    printed 47 8 2 100 111 0 2 9 ∷
    printed 0 0 2 100 101 2 0 0 ∷
    printed 1 0 2 101 102 9 0 0 ∷
    printed 16 0 2 102 103 197 0 0 ∷
    printed 40 7 2 103 111 0 6 9 ∷
    printed 48 8 2 103 111 0 7 9 ∷
    printed 49 2 2 103 106 9059164 0 0 ∷
    printed 50 2 2 108 111 608210 0 0 ∷
    []
    ) ∷
    push 2 (0x02 ∷ 0x0A ∷ 0x3A ∷ 0x75 ∷ 0xC4 ∷ 0xA3 ∷ 0x01 ∷ 0x04 ∷ 0xF6 ∷ 0xB8 ∷ 0x2D ∷ 0x91 ∷ []) 12 (
    printed 4 7 2 100 112 0 1 9 ∷
    printed 47 8 2 100 112 0 2 9 ∷
    printed 0 0 2 100 101 2 0 0 ∷
    printed 1 0 2 101 102 10 0 0 ∷
    printed 16 0 2 102 103 58 0 0 ∷
    printed 40 7 2 103 112 0 6 9 ∷
    printed 48 8 2 103 112 0 7 9 ∷
    printed 49 2 2 103 106 7718051 0 0 ∷
    printed 50 2 2 108 112 4139265425 0 0 ∷
    []
    ) ∷
    push 2 (0x02 ∷ 0x12 ∷ 0xC5 ∷ 0x8A ∷ 0x3B ∷ 0x5C ∷ 0x01 ∷ 0x03 ∷ 0xF9 ∷ 0x47 ∷ 0xD2 ∷ 0x75 ∷ 0xC4 ∷ 0xA3 ∷ 0x01 ∷ 0x04 ∷ 0xF6 ∷ 0xB8 ∷ 0x2D ∷ 0x91 ∷ []) 20 (
    printed 4 7 2 100 120 0 1 12 ∷
    printed 47 8 2 100 120 0 2 12 ∷
    printed 0 0 2 100 101 2 0 0 ∷
    printed 1 0 2 101 102 18 0 0 ∷
    printed 16 0 2 102 103 197 0 0 ∷
    printed 40 7 2 103 120 0 6 12 ∷
    printed 48 8 2 103 111 0 7 9 ∷
    printed 49 2 2 103 106 9059164 0 0 ∷
    printed 50 2 2 108 111 608210 0 0 ∷
    printed 48 8 2 111 120 0 10 12 ∷
    printed 49 2 2 111 114 7718051 0 0 ∷
    printed 50 2 2 116 120 4139265425 0 0 ∷
    []
    ) ∷
    push 2 (0x02 ∷ 0x0A ∷ 0x3A ∷ 0x75 ∷ 0xC4 ∷ 0xA3 ∷ 0x01 ∷ 0x02 ∷ 0xF6 ∷ 0xB8 ∷ 0x2D ∷ 0x91 ∷ []) 12 (
    printed 4 7 2 100 112 0 1 7 ∷
    printed 47 8 2 100 112 0 2 7 ∷
    printed 0 0 2 100 101 2 0 0 ∷
    printed 1 0 2 101 102 10 0 0 ∷
    printed 16 0 2 102 103 58 0 0 ∷
    printed 40 7 2 103 103 0 6 6 ∷
    printed 3 6 2 103 112 0 0 0 ∷
    []
    ) ∷
    push 2 (0x02 ∷ 0x0B ∷ 0xC5 ∷ 0x8A ∷ 0x3B ∷ 0x5C ∷ 0x01 ∷ 0x05 ∷ 0xF9 ∷ 0x47 ∷ 0xD2 ∷ 0x6E ∷ 0x10 ∷ []) 13 (
    printed 4 7 2 100 113 0 1 7 ∷
    printed 47 8 2 100 113 0 2 7 ∷
    printed 0 0 2 100 101 2 0 0 ∷
    printed 1 0 2 101 102 11 0 0 ∷
    printed 16 0 2 102 103 197 0 0 ∷
    printed 40 7 2 103 103 0 6 6 ∷
    printed 3 6 2 103 113 0 0 0 ∷
    []
    ) ∷
    push 2 (0x02 ∷ 0x0A ∷ 0x3A ∷ 0x75 ∷ 0xC4 ∷ 0xA3 ∷ 0x02 ∷ 0x04 ∷ 0xF6 ∷ 0xB8 ∷ 0x2D ∷ 0x91 ∷ []) 12 (
    printed 4 7 2 100 112 0 1 7 ∷
    printed 47 8 2 100 112 0 2 7 ∷
    printed 0 0 2 100 101 2 0 0 ∷
    printed 1 0 2 101 102 10 0 0 ∷
    printed 16 0 2 102 103 58 0 0 ∷
    printed 40 7 2 103 103 0 6 6 ∷
    printed 3 6 2 103 112 0 0 0 ∷
    []
    ) ∷
    push 2 (0x02 ∷ 0x11 ∷ 0xC5 ∷ 0x75 ∷ 0xC4 ∷ 0xA3 ∷ 0x00 ∷ 0x03 ∷ 0xF6 ∷ 0xB8 ∷ 0x2D ∷ 0x8A ∷ 0x3B ∷ 0x5C ∷ 0x01 ∷ 0x03 ∷ 0xF9 ∷ 0x47 ∷ 0xD2 ∷ []) 19 (
    printed 4 7 2 100 119 0 1 7 ∷
    printed 47 8 2 100 119 0 2 7 ∷
    printed 0 0 2 100 101 2 0 0 ∷
    printed 1 0 2 101 102 17 0 0 ∷
    printed 16 0 2 102 103 197 0 0 ∷
    printed 40 7 2 103 103 0 6 6 ∷
    printed 3 6 2 103 119 0 0 0 ∷
    []
    ) ∷
    push 2 (0x02 ∷ 0x11 ∷ 0x3A ∷ 0x75 ∷ 0xC4 ∷ 0xA3 ∷ 0x01 ∷ 0x04 ∷ 0xF6 ∷ 0xB8 ∷ 0x2D ∷ 0x91 ∷ 0x8A ∷ 0x3B ∷ 0x5C ∷ 0x01 ∷ 0x03 ∷ 0xF9 ∷ 0x47 ∷ []) 19 (
    printed 4 7 2 100 119 0 1 10 ∷
    printed 47 8 2 100 119 0 2 10 ∷
    printed 0 0 2 100 101 2 0 0 ∷
    printed 1 0 2 101 102 17 0 0 ∷
    printed 16 0 2 102 103 58 0 0 ∷
    printed 40 7 2 103 112 0 6 9 ∷
    printed 48 8 2 103 112 0 7 9 ∷
    printed 49 2 2 103 106 7718051 0 0 ∷
    printed 50 2 2 108 112 4139265425 0 0 ∷
    printed 3 6 2 112 119 0 0 0 ∷
    []
    ) ∷
    push 2 (0x02 ∷ 0x11 ∷ 0xC5 ∷ 0x8A ∷ 0x3B ∷ 0x5C ∷ 0x01 ∷ 0x03 ∷ 0xF9 ∷ 0x47 ∷ 0xD2 ∷ 0x75 ∷ 0xC4 ∷ 0xA3 ∷ 0x01 ∷ 0x04 ∷ 0xF6 ∷ 0xB8 ∷ 0x2D ∷ []) 19 (
    printed 4 7 2 100 119 0 1 10 ∷
    printed 47 8 2 100 119 0 2 10 ∷
    printed 0 0 2 100 101 2 0 0 ∷
    printed 1 0 2 101 102 17 0 0 ∷
    printed 16 0 2 102 103 197 0 0 ∷
    printed 40 7 2 103 111 0 6 9 ∷
    printed 48 8 2 103 111 0 7 9 ∷
    printed 49 2 2 103 106 9059164 0 0 ∷
    printed 50 2 2 108 111 608210 0 0 ∷
    printed 3 6 2 111 119 0 0 0 ∷
    []
    ) ∷
    push 2 (0x02 ∷ 0x05 ∷ 0x3A ∷ 0x75 ∷ 0xC4 ∷ 0xA3 ∷ 0x01 ∷ []) 7 (
    printed 4 7 2 100 107 0 1 7 ∷
    printed 47 8 2 100 107 0 2 7 ∷
    printed 0 0 2 100 101 2 0 0 ∷
    printed 1 0 2 101 102 5 0 0 ∷
    printed 16 0 2 102 103 58 0 0 ∷
    printed 40 7 2 103 103 0 6 6 ∷
    printed 3 6 2 103 107 0 0 0 ∷
    []
    ) ∷
    push 2 (0x16 ∷ 0x09 ∷ 0xC5 ∷ 0x8A ∷ 0x3B ∷ 0x5C ∷ 0x01 ∷ 0x03 ∷ 0xF9 ∷ 0x47 ∷ 0xD2 ∷ []) 11 (
    printed 4 7 2 100 111 0 1 9 ∷
    printed 47 8 2 100 111 0 2 9 ∷
    printed 0 0 2 100 101 22 0 0 ∷
    printed 1 0 2 101 102 9 0 0 ∷
    printed 16 0 2 102 103 197 0 0 ∷
    printed 40 7 2 103 111 0 6 9 ∷
    printed 48 8 2 103 111 0 7 9 ∷
    printed 49 2 2 103 106 9059164 0 0 ∷
    printed 50 2 2 108 111 608210 0 0 ∷
    []
    ) ∷
    push 2 (0x16 ∷ 0x0A ∷ 0x3A ∷ 0x75 ∷ 0xC4 ∷ 0xA3 ∷ 0x01 ∷ 0x04 ∷ 0xF6 ∷ 0xB8 ∷ 0x2D ∷ 0x91 ∷ []) 12 (
    printed 4 7 2 100 112 0 1 9 ∷
    printed 47 8 2 100 112 0 2 9 ∷
    printed 0 0 2 100 101 22 0 0 ∷
    printed 1 0 2 101 102 10 0 0 ∷
    printed 16 0 2 102 103 58 0 0 ∷
    printed 40 7 2 103 112 0 6 9 ∷
    printed 48 8 2 103 112 0 7 9 ∷
    printed 49 2 2 103 106 7718051 0 0 ∷
    printed 50 2 2 108 112 4139265425 0 0 ∷
    []
    ) ∷
    push 2 (0x16 ∷ 0x12 ∷ 0xC5 ∷ 0x8A ∷ 0x3B ∷ 0x5C ∷ 0x01 ∷ 0x03 ∷ 0xF9 ∷ 0x47 ∷ 0xD2 ∷ 0x75 ∷ 0xC4 ∷ 0xA3 ∷ 0x01 ∷ 0x04 ∷ 0xF6 ∷ 0xB8 ∷ 0x2D ∷ 0x91 ∷ []) 20 (
    printed 4 7 2 100 120 0 1 12 ∷
    printed 47 8 2 100 120 0 2 12 ∷
    printed 0 0 2 100 101 22 0 0 ∷
    printed 1 0 2 101 102 18 0 0 ∷
    printed 16 0 2 102 103 197 0 0 ∷
    printed 40 7 2 103 120 0 6 12 ∷
    printed 48 8 2 103 111 0 7 9 ∷
    printed 49 2 2 103 106 9059164 0 0 ∷
    printed 50 2 2 108 111 608210 0 0 ∷
    printed 48 8 2 111 120 0 10 12 ∷
    printed 49 2 2 111 114 7718051 0 0 ∷
    printed 50 2 2 116 120 4139265425 0 0 ∷
    []
    ) ∷
    push 2 (0x16 ∷ 0x0A ∷ 0x3A ∷ 0x75 ∷ 0xC4 ∷ 0xA3 ∷ 0x01 ∷ 0x02 ∷ 0xF6 ∷ 0xB8 ∷ 0x2D ∷ 0x91 ∷ []) 12 (
    printed 4 7 2 100 112 0 1 7 ∷
    printed 47 8 2 100 112 0 2 7 ∷
    printed 0 0 2 100 101 22 0 0 ∷
    printed 1 0 2 101 102 10 0 0 ∷
    printed 16 0 2 102 103 58 0 0 ∷
    printed 40 7 2 103 103 0 6 6 ∷
    printed 3 6 2 103 112 0 0 0 ∷
    []
    ) ∷
    push 2 (0x16 ∷ 0x0B ∷ 0xC5 ∷ 0x8A ∷ 0x3B ∷ 0x5C ∷ 0x01 ∷ 0x05 ∷ 0xF9 ∷ 0x47 ∷ 0xD2 ∷ 0x6E ∷ 0x10 ∷ []) 13 (
    printed 4 7 2 100 113 0 1 7 ∷
    printed 47 8 2 100 113 0 2 7 ∷
    printed 0 0 2 100 101 22 0 0 ∷
    printed 1 0 2 101 102 11 0 0 ∷
    printed 16 0 2 102 103 197 0 0 ∷
    printed 40 7 2 103 103 0 6 6 ∷
    printed 3 6 2 103 113 0 0 0 ∷
    []
    ) ∷
    push 2 (0x16 ∷ 0x0A ∷ 0x3A ∷ 0x75 ∷ 0xC4 ∷ 0xA3 ∷ 0x02 ∷ 0x04 ∷ 0xF6 ∷ 0xB8 ∷ 0x2D ∷ 0x91 ∷ []) 12 (
    printed 4 7 2 100 112 0 1 7 ∷
    printed 47 8 2 100 112 0 2 7 ∷
    printed 0 0 2 100 101 22 0 0 ∷
    printed 1 0 2 101 102 10 0 0 ∷
    printed 16 0 2 102 103 58 0 0 ∷
    printed 40 7 2 103 103 0 6 6 ∷
    printed 3 6 2 103 112 0 0 0 ∷
    []
    ) ∷
    push 2 (0x16 ∷ 0x11 ∷ 0xC5 ∷ 0x75 ∷ 0xC4 ∷ 0xA3 ∷ 0x00 ∷ 0x03 ∷ 0xF6 ∷ 0xB8 ∷ 0x2D ∷ 0x8A ∷ 0x3B ∷ 0x5C ∷ 0x01 ∷ 0x03 ∷ 0xF9 ∷ 0x47 ∷ 0xD2 ∷ []) 19 (
    printed 4 7 2 100 119 0 1 7 ∷
    printed 47 8 2 100 119 0 2 7 ∷
    printed 0 0 2 100 101 22 0 0 ∷
    printed 1 0 2 101 102 17 0 0 ∷
    printed 16 0 2 102 103 197 0 0 ∷
    printed 40 7 2 103 103 0 6 6 ∷
    printed 3 6 2 103 119 0 0 0 ∷
    []
    ) ∷
    push 2 (0x16 ∷ 0x11 ∷ 0x3A ∷ 0x75 ∷ 0xC4 ∷ 0xA3 ∷ 0x01 ∷ 0x04 ∷ 0xF6 ∷ 0xB8 ∷ 0x2D ∷ 0x91 ∷ 0x8A ∷ 0x3B ∷ 0x5C ∷ 0x01 ∷ 0x03 ∷ 0xF9 ∷ 0x47 ∷ []) 19 (
    printed 4 7 2 100 119 0 1 10 ∷
    printed 47 8 2 100 119 0 2 10 ∷
    printed 0 0 2 100 101 22 0 0 ∷
    printed 1 0 2 101 102 17 0 0 ∷
    printed 16 0 2 102 103 58 0 0 ∷
    printed 40 7 2 103 112 0 6 9 ∷
    printed 48 8 2 103 112 0 7 9 ∷
    printed 49 2 2 103 106 7718051 0 0 ∷
    printed 50 2 2 108 112 4139265425 0 0 ∷
    printed 3 6 2 112 119 0 0 0 ∷
    []
    ) ∷
    push 2 (0x16 ∷ 0x11 ∷ 0xC5 ∷ 0x8A ∷ 0x3B ∷ 0x5C ∷ 0x01 ∷ 0x03 ∷ 0xF9 ∷ 0x47 ∷ 0xD2 ∷ 0x75 ∷ 0xC4 ∷ 0xA3 ∷ 0x01 ∷ 0x04 ∷ 0xF6 ∷ 0xB8 ∷ 0x2D ∷ []) 19 (
    printed 4 7 2 100 119 0 1 10 ∷
    printed 47 8 2 100 119 0 2 10 ∷
    printed 0 0 2 100 101 22 0 0 ∷
    printed 1 0 2 101 102 17 0 0 ∷
    printed 16 0 2 102 103 197 0 0 ∷
    printed 40 7 2 103 111 0 6 9 ∷
    printed 48 8 2 103 111 0 7 9 ∷
    printed 49 2 2 103 106 9059164 0 0 ∷
    printed 50 2 2 108 111 608210 0 0 ∷
    printed 3 6 2 111 119 0 0 0 ∷
    []
    ) ∷
    push 2 (0x16 ∷ 0x05 ∷ 0x3A ∷ 0x75 ∷ 0xC4 ∷ 0xA3 ∷ 0x01 ∷ []) 7 (
    printed 4 7 2 100 107 0 1 7 ∷
    printed 47 8 2 100 107 0 2 7 ∷
    printed 0 0 2 100 101 22 0 0 ∷
    printed 1 0 2 101 102 5 0 0 ∷
    printed 16 0 2 102 103 58 0 0 ∷
    printed 40 7 2 103 103 0 6 6 ∷
    printed 3 6 2 103 107 0 0 0 ∷
    []
    ) ∷
    push 2 (0x19 ∷ 0x08 ∷ 0x80 ∷ 0x41 ∷ 0x01 ∷ 0x04 ∷ 0xA8 ∷ 0x53 ∷ 0x1C ∷ 0xE7 ∷ []) 10 (
    printed 4 7 2 100 110 0 1 10 ∷
    printed 47 8 2 100 110 0 2 10 ∷
    printed 0 0 2 100 101 25 0 0 ∷
    printed 1 0 2 101 102 8 0 0 ∷
    printed 44 1 2 102 104 32833 0 0 ∷
    printed 4 7 5 104 110 0 6 10 ∷
    printed 47 8 5 104 110 0 7 10 ∷
    printed 0 0 5 104 105 1 0 0 ∷
    printed 1 0 5 105 106 4 0 0 ∷
    printed 2 6 5 106 110 0 0 0 ∷
    []
    ) ∷
    push 2 (0x19 ∷ 0x09 ∷ 0x7F ∷ 0xBE ∷ 0x01 ∷ 0x04 ∷ 0x57 ∷ 0xAC ∷ 0xE3 ∷ 0x18 ∷ 0x19 ∷ []) 11 (
    printed 4 7 2 100 111 0 1 11 ∷
    printed 47 8 2 100 111 0 2 11 ∷
    printed 0 0 2 100 101 25 0 0 ∷
    printed 1 0 2 101 102 9 0 0 ∷
    printed 44 1 2 102 104 32702 0 0 ∷
    printed 4 7 5 104 110 0 6 10 ∷
    printed 47 8 5 104 110 0 7 10 ∷
    printed 0 0 5 104 105 1 0 0 ∷
    printed 1 0 5 105 106 4 0 0 ∷
    printed 2 6 5 106 110 0 0 0 ∷
    printed 3 6 5 110 111 0 0 0 ∷
    []
    ) ∷
    push 2 (0x19 ∷ 0x06 ∷ 0x41 ∷ 0x80 ∷ 0x00 ∷ 0x00 ∷ 0xFF ∷ 0x00 ∷ []) 8 (
    printed 4 7 2 100 108 0 1 14 ∷
    printed 47 8 2 100 108 0 2 14 ∷
    printed 0 0 2 100 101 25 0 0 ∷
    printed 1 0 2 101 102 6 0 0 ∷
    printed 44 1 2 102 104 16768 0 0 ∷
    printed 4 7 5 104 108 0 6 14 ∷
    printed 47 8 5 104 106 0 7 10 ∷
    printed 0 0 5 104 105 0 0 0 ∷
    printed 1 0 5 105 106 0 0 0 ∷
    printed 2 6 5 106 106 0 0 0 ∷
    printed 47 8 5 106 108 0 11 14 ∷
    printed 0 0 5 106 107 255 0 0 ∷
    printed 1 0 5 107 108 0 0 0 ∷
    printed 2 6 5 108 108 0 0 0 ∷
    []
    ) ∷
    push 2 (0x19 ∷ 0x09 ∷ 0xBE ∷ 0x7F ∷ 0x07 ∷ 0x01 ∷ 0x5A ∷ 0x19 ∷ 0x03 ∷ 0xC6 ∷ 0x2B ∷ []) 11 (
    printed 4 7 2 100 111 0 1 11 ∷
    printed 47 8 2 100 111 0 2 11 ∷
    printed 0 0 2 100 101 25 0 0 ∷
    printed 1 0 2 101 102 9 0 0 ∷
    printed 44 1 2 102 104 48767 0 0 ∷
    printed 4 7 5 104 107 0 6 10 ∷
    printed 47 8 5 104 107 0 7 10 ∷
    printed 0 0 5 104 105 7 0 0 ∷
    printed 1 0 5 105 106 1 0 0 ∷
    printed 2 6 5 106 107 0 0 0 ∷
    printed 3 6 5 107 111 0 0 0 ∷
    []
    ) ∷
    push 0 (0x00 ∷ 0x05 ∷ 0x96 ∷ 0x33 ∷ 0xD0 ∷ 0x6D ∷ 0x0A ∷ 0x07 ∷ 0x05 ∷ 0x69 ∷ 0xCC ∷ 0x2F ∷ 0x92 ∷ 0xF5 ∷ 0x28 ∷ 0x05 ∷ 0x96 ∷ 0x33 ∷ 0xD0 ∷ 0x6D ∷ 0x0A ∷ 0x00 ∷ 0x00 ∷ []) 23 (
    printed 4 7 0 100 123 0 1 17 ∷
    printed 47 8 0 100 107 0 2 5 ∷
    printed 0 0 0 100 101 0 0 0 ∷
    printed 1 0 0 101 102 5 0 0 ∷
    printed 2 6 0 102 107 0 0 0 ∷
    printed 47 8 0 107 114 0 6 9 ∷
    printed 0 0 0 107 108 7 0 0 ∷
    printed 1 0 0 108 109 5 0 0 ∷
    printed 2 6 0 109 114 0 0 0 ∷
    printed 47 8 0 114 121 0 10 13 ∷
    printed 0 0 0 114 115 40 0 0 ∷
    printed 1 0 0 115 116 5 0 0 ∷
    printed 2 6 0 116 121 0 0 0 ∷
    printed 47 8 0 121 123 0 14 17 ∷
    printed 0 0 0 121 122 0 0 0 ∷
    printed 1 0 0 122 123 0 0 0 ∷
    printed 2 6 0 123 123 0 0 0 ∷
    []
    ) ∷
    push 1 (0x00 ∷ 0x05 ∷ 0x96 ∷ 0x33 ∷ 0xD0 ∷ 0x6D ∷ 0x0A ∷ 0x06 ∷ 0x05 ∷ 0x69 ∷ 0xCC ∷ 0x2F ∷ 0x92 ∷ 0xF5 ∷ 0xFF ∷ 0x05 ∷ 0x96 ∷ 0x33 ∷ 0xD0 ∷ 0x6D ∷ 0x0A ∷ 0x00 ∷ 0x00 ∷ []) 23 (
    printed 4 7 1 100 123 0 1 17 ∷
    printed 47 8 1 100 107 0 2 5 ∷
    printed 0 0 1 100 101 0 0 0 ∷
    printed 1 0 1 101 102 5 0 0 ∷
    printed 2 6 1 102 107 0 0 0 ∷
    printed 47 8 1 107 114 0 6 9 ∷
    printed 0 0 1 107 108 6 0 0 ∷
    printed 1 0 1 108 109 5 0 0 ∷
    printed 2 6 1 109 114 0 0 0 ∷
    printed 47 8 1 114 121 0 10 13 ∷
    printed 0 0 1 114 115 255 0 0 ∷
    printed 1 0 1 115 116 5 0 0 ∷
    printed 2 6 1 116 121 0 0 0 ∷
    printed 47 8 1 121 123 0 14 17 ∷
    printed 0 0 1 121 122 0 0 0 ∷
    printed 1 0 1 122 123 0 0 0 ∷
    printed 2 6 1 123 123 0 0 0 ∷
    []
    ) ∷
    push 2 (0x14 ∷ 0x05 ∷ 0x96 ∷ 0x33 ∷ 0xD0 ∷ 0x6D ∷ 0x0A ∷ 0x15 ∷ 0x05 ∷ 0x69 ∷ 0xCC ∷ 0x2F ∷ 0x92 ∷ 0xF5 ∷ 0x1A ∷ 0x05 ∷ 0x96 ∷ 0x33 ∷ 0xD0 ∷ 0x6D ∷ 0x0A ∷ 0x14 ∷ 0x00 ∷ []) 23 (
    printed 4 7 2 100 123 0 1 17 ∷
    printed 47 8 2 100 107 0 2 5 ∷
    printed 0 0 2 100 101 20 0 0 ∷
    printed 1 0 2 101 102 5 0 0 ∷
    printed 2 6 2 102 107 0 0 0 ∷
    printed 47 8 2 107 114 0 6 9 ∷
    printed 0 0 2 107 108 21 0 0 ∷
    printed 1 0 2 108 109 5 0 0 ∷
    printed 2 6 2 109 114 0 0 0 ∷
    printed 47 8 2 114 121 0 10 13 ∷
    printed 0 0 2 114 115 26 0 0 ∷
    printed 1 0 2 115 116 5 0 0 ∷
    printed 2 6 2 116 121 0 0 0 ∷
    printed 47 8 2 121 123 0 14 17 ∷
    printed 0 0 2 121 122 20 0 0 ∷
    printed 1 0 2 122 123 0 0 0 ∷
    printed 2 6 2 123 123 0 0 0 ∷
    []
    ) ∷
    push 3 (0x00 ∷ 0x05 ∷ 0x96 ∷ 0x33 ∷ 0xD0 ∷ 0x6D ∷ 0x0A ∷ 0x02 ∷ 0x05 ∷ 0x69 ∷ 0xCC ∷ 0x2F ∷ 0x92 ∷ 0xF5 ∷ 0x04 ∷ 0x05 ∷ 0x96 ∷ 0x33 ∷ 0xD0 ∷ 0x6D ∷ 0x0A ∷ 0x00 ∷ 0x00 ∷ []) 23 (
    printed 4 7 3 100 123 0 1 17 ∷
    printed 47 8 3 100 107 0 2 5 ∷
    printed 0 0 3 100 101 0 0 0 ∷
    printed 1 0 3 101 102 5 0 0 ∷
    printed 2 6 3 102 107 0 0 0 ∷
    printed 47 8 3 107 114 0 6 9 ∷
    printed 0 0 3 107 108 2 0 0 ∷
    printed 1 0 3 108 109 5 0 0 ∷
    printed 2 6 3 109 114 0 0 0 ∷
    printed 47 8 3 114 121 0 10 13 ∷
    printed 0 0 3 114 115 4 0 0 ∷
    printed 1 0 3 115 116 5 0 0 ∷
    printed 2 6 3 116 121 0 0 0 ∷
    printed 47 8 3 121 123 0 14 17 ∷
    printed 0 0 3 121 122 0 0 0 ∷
    printed 1 0 3 122 123 0 0 0 ∷
    printed 2 6 3 123 123 0 0 0 ∷
    []
    ) ∷
    push 4 (0x00 ∷ 0x05 ∷ 0x96 ∷ 0x33 ∷ 0xD0 ∷ 0x6D ∷ 0x0A ∷ 0x02 ∷ 0x05 ∷ 0x69 ∷ 0xCC ∷ 0x2F ∷ 0x92 ∷ 0xF5 ∷ 0xFF ∷ 0x05 ∷ 0x96 ∷ 0x33 ∷ 0xD0 ∷ 0x6D ∷ 0x0A ∷ 0x00 ∷ 0x00 ∷ []) 23 (
    printed 4 7 4 100 123 0 1 17 ∷
    printed 47 8 4 100 107 0 2 5 ∷
    printed 0 0 4 100 101 0 0 0 ∷
    printed 1 0 4 101 102 5 0 0 ∷
    printed 2 6 4 102 107 0 0 0 ∷
    printed 47 8 4 107 114 0 6 9 ∷
    printed 0 0 4 107 108 2 0 0 ∷
    printed 1 0 4 108 109 5 0 0 ∷
    printed 2 6 4 109 114 0 0 0 ∷
    printed 47 8 4 114 121 0 10 13 ∷
    printed 0 0 4 114 115 255 0 0 ∷
    printed 1 0 4 115 116 5 0 0 ∷
    printed 2 6 4 116 121 0 0 0 ∷
    printed 47 8 4 121 123 0 14 17 ∷
    printed 0 0 4 121 122 0 0 0 ∷
    printed 1 0 4 122 123 0 0 0 ∷
    printed 2 6 4 123 123 0 0 0 ∷
    []
    ) ∷
    push 5 (0x00 ∷ 0x05 ∷ 0x96 ∷ 0x33 ∷ 0xD0 ∷ 0x6D ∷ 0x0A ∷ 0x01 ∷ 0x05 ∷ 0x69 ∷ 0xCC ∷ 0x2F ∷ 0x92 ∷ 0xF5 ∷ 0xFF ∷ 0x05 ∷ 0x96 ∷ 0x33 ∷ 0xD0 ∷ 0x6D ∷ 0x0A ∷ 0x00 ∷ 0x00 ∷ []) 23 (
    printed 4 7 5 100 123 0 1 17 ∷
    printed 47 8 5 100 107 0 2 5 ∷
    printed 0 0 5 100 101 0 0 0 ∷
    printed 1 0 5 101 102 5 0 0 ∷
    printed 2 6 5 102 107 0 0 0 ∷
    printed 47 8 5 107 114 0 6 9 ∷
    printed 0 0 5 107 108 1 0 0 ∷
    printed 1 0 5 108 109 5 0 0 ∷
    printed 2 6 5 109 114 0 0 0 ∷
    printed 47 8 5 114 121 0 10 13 ∷
    printed 0 0 5 114 115 255 0 0 ∷
    printed 1 0 5 115 116 5 0 0 ∷
    printed 2 6 5 116 121 0 0 0 ∷
    printed 47 8 5 121 123 0 14 17 ∷
    printed 0 0 5 121 122 0 0 0 ∷
    printed 1 0 5 122 123 0 0 0 ∷
    printed 2 6 5 123 123 0 0 0 ∷
    []
    ) ∷
    push 0 (0x01 ∷ 0x04 ∷ 0x96 ∷ 0x33 ∷ 0xD0 ∷ 0x6D ∷ 0x02 ∷ 0x08 ∷ 0x69 ∷ 0xCC ∷ 0x2F ∷ 0x92 ∷ 0xF5 ∷ 0x58 ∷ 0xBB ∷ 0x1E ∷ 0x05 ∷ 0x13 ∷ 0x96 ∷ 0x33 ∷ 0xD0 ∷ 0x6D ∷ 0x0A ∷ 0xA7 ∷ 0x44 ∷ 0xE1 ∷ 0x7E ∷ 0x1B ∷ 0xB8 ∷ 0x55 ∷ 0xF2 ∷ 0x8F ∷ 0x2C ∷ 0xC9 ∷ 0x66 ∷ 0x03 ∷ 0xA0 ∷ []) 37 (
    printed 4 7 0 100 137 0 1 13 ∷
    printed 47 8 0 100 106 0 2 5 ∷
    printed 0 0 0 100 101 1 0 0 ∷
    printed 1 0 0 101 102 4 0 0 ∷
    printed 2 6 0 102 106 0 0 0 ∷
    printed 47 8 0 106 116 0 6 9 ∷
    printed 0 0 0 106 107 2 0 0 ∷
    printed 1 0 0 107 108 8 0 0 ∷
    printed 2 6 0 108 116 0 0 0 ∷
    printed 47 8 0 116 137 0 10 13 ∷
    printed 0 0 0 116 117 5 0 0 ∷
    printed 1 0 0 117 118 19 0 0 ∷
    printed 2 6 0 118 137 0 0 0 ∷
    []
    ) ∷
    push 0 (0x13 ∷ 0x01 ∷ 0x96 ∷ 0x16 ∷ 0x01 ∷ 0x69 ∷ 0x17 ∷ 0x02 ∷ 0x96 ∷ 0x33 ∷ 0x18 ∷ 0x01 ∷ 0x69 ∷ 0x19 ∷ 0x02 ∷ 0x96 ∷ 0x33 ∷ []) 17 (
    printed 4 7 0 100 117 0 1 21 ∷
    printed 47 8 0 100 103 0 2 5 ∷
    printed 0 0 0 100 101 19 0 0 ∷
    printed 1 0 0 101 102 1 0 0 ∷
    printed 2 6 0 102 103 0 0 0 ∷
    printed 47 8 0 103 106 0 6 9 ∷
    printed 0 0 0 103 104 22 0 0 ∷
    printed 1 0 0 104 105 1 0 0 ∷
    printed 2 6 0 105 106 0 0 0 ∷
    printed 47 8 0 106 110 0 10 13 ∷
    printed 0 0 0 106 107 23 0 0 ∷
    printed 1 0 0 107 108 2 0 0 ∷
    printed 2 6 0 108 110 0 0 0 ∷
    printed 47 8 0 110 113 0 14 17 ∷
    printed 0 0 0 110 111 24 0 0 ∷
    printed 1 0 0 111 112 1 0 0 ∷
    printed 2 6 0 112 113 0 0 0 ∷
    printed 47 8 0 113 117 0 18 21 ∷
    printed 0 0 0 113 114 25 0 0 ∷
    printed 1 0 0 114 115 2 0 0 ∷
    printed 2 6 0 115 117 0 0 0 ∷
    []
    ) ∷
    push 1 (0x06 ∷ 0x04 ∷ 0x96 ∷ 0x33 ∷ 0xD0 ∷ 0x6D ∷ 0x12 ∷ 0x03 ∷ 0x69 ∷ 0xCC ∷ 0x2F ∷ 0x1F ∷ 0x05 ∷ 0x96 ∷ 0x33 ∷ 0xD0 ∷ 0x6D ∷ 0x0A ∷ 0x25 ∷ 0x04 ∷ 0x69 ∷ 0xCC ∷ 0x2F ∷ 0x92 ∷ []) 24 (
    printed 4 7 1 100 124 0 1 17 ∷
    printed 47 8 1 100 106 0 2 5 ∷
    printed 0 0 1 100 101 6 0 0 ∷
    printed 1 0 1 101 102 4 0 0 ∷
    printed 2 6 1 102 106 0 0 0 ∷
    printed 47 8 1 106 111 0 6 9 ∷
    printed 0 0 1 106 107 18 0 0 ∷
    printed 1 0 1 107 108 3 0 0 ∷
    printed 2 6 1 108 111 0 0 0 ∷
    printed 47 8 1 111 118 0 10 13 ∷
    printed 0 0 1 111 112 31 0 0 ∷
    printed 1 0 1 112 113 5 0 0 ∷
    printed 2 6 1 113 118 0 0 0 ∷
    printed 47 8 1 118 124 0 14 17 ∷
    printed 0 0 1 118 119 37 0 0 ∷
    printed 1 0 1 119 120 4 0 0 ∷
    printed 2 6 1 120 124 0 0 0 ∷
    []
    ) ∷
    push 1 (0x13 ∷ 0x01 ∷ 0x96 ∷ 0x16 ∷ 0x01 ∷ 0x69 ∷ 0x17 ∷ 0x02 ∷ 0x96 ∷ 0x33 ∷ 0x18 ∷ 0x01 ∷ 0x69 ∷ 0x19 ∷ 0x02 ∷ 0x96 ∷ 0x33 ∷ []) 17 (
    printed 4 7 1 100 117 0 1 21 ∷
    printed 47 8 1 100 103 0 2 5 ∷
    printed 0 0 1 100 101 19 0 0 ∷
    printed 1 0 1 101 102 1 0 0 ∷
    printed 2 6 1 102 103 0 0 0 ∷
    printed 47 8 1 103 106 0 6 9 ∷
    printed 0 0 1 103 104 22 0 0 ∷
    printed 1 0 1 104 105 1 0 0 ∷
    printed 2 6 1 105 106 0 0 0 ∷
    printed 47 8 1 106 110 0 10 13 ∷
    printed 0 0 1 106 107 23 0 0 ∷
    printed 1 0 1 107 108 2 0 0 ∷
    printed 2 6 1 108 110 0 0 0 ∷
    printed 47 8 1 110 113 0 14 17 ∷
    printed 0 0 1 110 111 24 0 0 ∷
    printed 1 0 1 111 112 1 0 0 ∷
    printed 2 6 1 112 113 0 0 0 ∷
    printed 47 8 1 113 117 0 18 21 ∷
    printed 0 0 1 113 114 25 0 0 ∷
    printed 1 0 1 114 115 2 0 0 ∷
    printed 2 6 1 115 117 0 0 0 ∷
    []
    ) ∷
    push 2 (0x01 ∷ 0x04 ∷ 0x96 ∷ 0x33 ∷ 0xD0 ∷ 0x6D ∷ 0x03 ∷ 0x05 ∷ 0x69 ∷ 0xCC ∷ 0x2F ∷ 0x92 ∷ 0xF5 ∷ 0x04 ∷ 0x08 ∷ 0x96 ∷ 0x33 ∷ 0xD0 ∷ 0x6D ∷ 0x0A ∷ 0xA7 ∷ 0x44 ∷ 0xE1 ∷ 0x05 ∷ 0x13 ∷ 0x69 ∷ 0xCC ∷ 0x2F ∷ 0x92 ∷ 0xF5 ∷ 0x58 ∷ 0xBB ∷ 0x1E ∷ 0x81 ∷ 0xE4 ∷ 0x47 ∷ 0xAA ∷ 0x0D ∷ 0x70 ∷ 0xD3 ∷ 0x36 ∷ 0x99 ∷ 0xFC ∷ 0x5F ∷ []) 44 (
    printed 4 7 2 100 144 0 1 17 ∷
    printed 47 8 2 100 106 0 2 5 ∷
    printed 0 0 2 100 101 1 0 0 ∷
    printed 1 0 2 101 102 4 0 0 ∷
    printed 2 6 2 102 106 0 0 0 ∷
    printed 47 8 2 106 113 0 6 9 ∷
    printed 0 0 2 106 107 3 0 0 ∷
    printed 1 0 2 107 108 5 0 0 ∷
    printed 2 6 2 108 113 0 0 0 ∷
    printed 47 8 2 113 123 0 10 13 ∷
    printed 0 0 2 113 114 4 0 0 ∷
    printed 1 0 2 114 115 8 0 0 ∷
    printed 2 6 2 115 123 0 0 0 ∷
    printed 47 8 2 123 144 0 14 17 ∷
    printed 0 0 2 123 124 5 0 0 ∷
    printed 1 0 2 124 125 19 0 0 ∷
    printed 2 6 2 125 144 0 0 0 ∷
    []
    ) ∷
    push 2 (0x06 ∷ 0x04 ∷ 0x96 ∷ 0x33 ∷ 0xD0 ∷ 0x6D ∷ 0x09 ∷ 0x04 ∷ 0x69 ∷ 0xCC ∷ 0x2F ∷ 0x92 ∷ 0x12 ∷ 0x03 ∷ 0x96 ∷ 0x33 ∷ 0xD0 ∷ 0x1F ∷ 0x05 ∷ 0x69 ∷ 0xCC ∷ 0x2F ∷ 0x92 ∷ 0xF5 ∷ []) 24 (
    printed 4 7 2 100 124 0 1 17 ∷
    printed 47 8 2 100 106 0 2 5 ∷
    printed 0 0 2 100 101 6 0 0 ∷
    printed 1 0 2 101 102 4 0 0 ∷
    printed 2 6 2 102 106 0 0 0 ∷
    printed 47 8 2 106 112 0 6 9 ∷
    printed 0 0 2 106 107 9 0 0 ∷
    printed 1 0 2 107 108 4 0 0 ∷
    printed 2 6 2 108 112 0 0 0 ∷
    printed 47 8 2 112 117 0 10 13 ∷
    printed 0 0 2 112 113 18 0 0 ∷
    printed 1 0 2 113 114 3 0 0 ∷
    printed 2 6 2 114 117 0 0 0 ∷
    printed 47 8 2 117 124 0 14 17 ∷
    printed 0 0 2 117 118 31 0 0 ∷
    printed 1 0 2 118 119 5 0 0 ∷
    printed 2 6 2 119 124 0 0 0 ∷
    []
    ) ∷
    push 3 (0x02 ∷ 0x08 ∷ 0x96 ∷ 0x33 ∷ 0xD0 ∷ 0x6D ∷ 0x0A ∷ 0xA7 ∷ 0x44 ∷ 0xE1 ∷ 0x04 ∷ 0x08 ∷ 0x69 ∷ 0xCC ∷ 0x2F ∷ 0x92 ∷ 0xF5 ∷ 0x58 ∷ 0xBB ∷ 0x1E ∷ 0x05 ∷ 0x13 ∷ 0x96 ∷ 0x33 ∷ 0xD0 ∷ 0x6D ∷ 0x0A ∷ 0xA7 ∷ 0x44 ∷ 0xE1 ∷ 0x7E ∷ 0x1B ∷ 0xB8 ∷ 0x55 ∷ 0xF2 ∷ 0x8F ∷ 0x2C ∷ 0xC9 ∷ 0x66 ∷ 0x03 ∷ 0xA0 ∷ 0x0B ∷ 0x04 ∷ 0x69 ∷ 0xCC ∷ 0x2F ∷ 0x92 ∷ []) 47 (
    printed 4 7 3 100 147 0 1 17 ∷
    printed 47 8 3 100 110 0 2 5 ∷
    printed 0 0 3 100 101 2 0 0 ∷
    printed 1 0 3 101 102 8 0 0 ∷
    printed 2 6 3 102 110 0 0 0 ∷
    printed 47 8 3 110 120 0 6 9 ∷
    printed 0 0 3 110 111 4 0 0 ∷
    printed 1 0 3 111 112 8 0 0 ∷
    printed 2 6 3 112 120 0 0 0 ∷
    printed 47 8 3 120 141 0 10 13 ∷
    printed 0 0 3 120 121 5 0 0 ∷
    printed 1 0 3 121 122 19 0 0 ∷
    printed 2 6 3 122 141 0 0 0 ∷
    printed 47 8 3 141 147 0 14 17 ∷
    printed 0 0 3 141 142 11 0 0 ∷
    printed 1 0 3 142 143 4 0 0 ∷
    printed 2 6 3 143 147 0 0 0 ∷
    []
    ) ∷
    push 3 (0x0C ∷ 0x10 ∷ 0x96 ∷ 0x33 ∷ 0xD0 ∷ 0x6D ∷ 0x0A ∷ 0xA7 ∷ 0x44 ∷ 0xE1 ∷ 0x7E ∷ 0x1B ∷ 0xB8 ∷ 0x55 ∷ 0xF2 ∷ 0x8F ∷ 0x2C ∷ 0xC9 ∷ 0x12 ∷ 0x03 ∷ 0x69 ∷ 0xCC ∷ 0x2F ∷ 0x13 ∷ 0x01 ∷ 0x96 ∷ 0x18 ∷ 0x01 ∷ 0x69 ∷ []) 29 (
    printed 4 7 3 100 129 0 1 17 ∷
    printed 47 8 3 100 118 0 2 5 ∷
    printed 0 0 3 100 101 12 0 0 ∷
    printed 1 0 3 101 102 16 0 0 ∷
    printed 2 6 3 102 118 0 0 0 ∷
    printed 47 8 3 118 123 0 6 9 ∷
    printed 0 0 3 118 119 18 0 0 ∷
    printed 1 0 3 119 120 3 0 0 ∷
    printed 2 6 3 120 123 0 0 0 ∷
    printed 47 8 3 123 126 0 10 13 ∷
    printed 0 0 3 123 124 19 0 0 ∷
    printed 1 0 3 124 125 1 0 0 ∷
    printed 2 6 3 125 126 0 0 0 ∷
    printed 47 8 3 126 129 0 14 17 ∷
    printed 0 0 3 126 127 24 0 0 ∷
    printed 1 0 3 127 128 1 0 0 ∷
    printed 2 6 3 128 129 0 0 0 ∷
    []
    ) ∷
    push 4 (0x02 ∷ 0x08 ∷ 0x96 ∷ 0x33 ∷ 0xD0 ∷ 0x6D ∷ 0x0A ∷ 0xA7 ∷ 0x44 ∷ 0xE1 ∷ 0x03 ∷ 0x05 ∷ 0x69 ∷ 0xCC ∷ 0x2F ∷ 0x92 ∷ 0xF5 ∷ 0x04 ∷ 0x08 ∷ 0x96 ∷ 0x33 ∷ 0xD0 ∷ 0x6D ∷ 0x0A ∷ 0xA7 ∷ 0x44 ∷ 0xE1 ∷ 0x18 ∷ 0x01 ∷ 0x69 ∷ []) 30 (
    printed 4 7 4 100 130 0 1 17 ∷
    printed 47 8 4 100 110 0 2 5 ∷
    printed 0 0 4 100 101 2 0 0 ∷
    printed 1 0 4 101 102 8 0 0 ∷
    printed 2 6 4 102 110 0 0 0 ∷
    printed 47 8 4 110 117 0 6 9 ∷
    printed 0 0 4 110 111 3 0 0 ∷
    printed 1 0 4 111 112 5 0 0 ∷
    printed 2 6 4 112 117 0 0 0 ∷
    printed 47 8 4 117 127 0 10 13 ∷
    printed 0 0 4 117 118 4 0 0 ∷
    printed 1 0 4 118 119 8 0 0 ∷
    printed 2 6 4 119 127 0 0 0 ∷
    printed 47 8 4 127 130 0 14 17 ∷
    printed 0 0 4 127 128 24 0 0 ∷
    printed 1 0 4 128 129 1 0 0 ∷
    printed 2 6 4 129 130 0 0 0 ∷
    []
    ) ∷
    push 5 (0x01 ∷ 0x05 ∷ 0x96 ∷ 0x33 ∷ 0xD0 ∷ 0x6D ∷ 0x0A ∷ 0x02 ∷ 0x08 ∷ 0x69 ∷ 0xCC ∷ 0x2F ∷ 0x92 ∷ 0xF5 ∷ 0x58 ∷ 0xBB ∷ 0x1E ∷ 0x03 ∷ 0x05 ∷ 0x96 ∷ 0x33 ∷ 0xD0 ∷ 0x6D ∷ 0x0A ∷ 0x13 ∷ 0x01 ∷ 0x69 ∷ []) 27 (
    printed 4 7 5 100 127 0 1 17 ∷
    printed 47 8 5 100 107 0 2 5 ∷
    printed 0 0 5 100 101 1 0 0 ∷
    printed 1 0 5 101 102 5 0 0 ∷
    printed 2 6 5 102 107 0 0 0 ∷
    printed 47 8 5 107 117 0 6 9 ∷
    printed 0 0 5 107 108 2 0 0 ∷
    printed 1 0 5 108 109 8 0 0 ∷
    printed 2 6 5 109 117 0 0 0 ∷
    printed 47 8 5 117 124 0 10 13 ∷
    printed 0 0 5 117 118 3 0 0 ∷
    printed 1 0 5 118 119 5 0 0 ∷
    printed 2 6 5 119 124 0 0 0 ∷
    printed 47 8 5 124 127 0 14 17 ∷
    printed 0 0 5 124 125 19 0 0 ∷
    printed 1 0 5 125 126 1 0 0 ∷
    printed 2 6 5 126 127 0 0 0 ∷
    []
    ) ∷
    push 0 (0x12 ∷ 0x03 ∷ 0x96 ∷ 0x33 ∷ 0xD0 ∷ 0x06 ∷ 0x04 ∷ 0x69 ∷ 0xCC ∷ 0x2F ∷ 0x92 ∷ []) 11 (
    printed 4 7 0 100 111 0 1 9 ∷
    printed 47 8 0 100 105 0 2 5 ∷
    printed 0 0 0 100 101 18 0 0 ∷
    printed 1 0 0 101 102 3 0 0 ∷
    printed 15 2 0 102 105 9843664 0 0 ∷
    printed 47 8 0 105 111 0 6 9 ∷
    printed 0 0 0 105 106 6 0 0 ∷
    printed 1 0 0 106 107 4 0 0 ∷
    printed 8 4 0 107 111 0 0 0 ∷
    []
    ) ∷
    push 0 (0x1F ∷ 0x05 ∷ 0x96 ∷ 0x33 ∷ 0xD0 ∷ 0x6D ∷ 0x0A ∷ 0x12 ∷ 0x04 ∷ 0x69 ∷ 0xCC ∷ 0x2F ∷ 0x92 ∷ 0x09 ∷ 0x04 ∷ 0x96 ∷ 0x33 ∷ 0xD0 ∷ 0x6D ∷ []) 19 (
    printed 4 7 0 100 119 0 1 16 ∷
    printed 47 8 0 100 107 0 2 7 ∷
    printed 0 0 0 100 101 31 0 0 ∷
    printed 1 0 0 101 102 5 0 0 ∷
    printed 16 0 0 102 103 150 0 0 ∷
    printed 17 0 0 103 104 51 0 0 ∷
    printed 19 2 0 104 107 27914 0 0 ∷
    printed 47 8 0 107 113 0 8 12 ∷
    printed 0 0 0 107 108 18 0 0 ∷
    printed 1 0 0 108 109 4 0 0 ∷
    printed 15 2 0 109 112 6933551 0 0 ∷
    printed 3 6 0 112 113 0 0 0 ∷
    printed 47 8 0 113 119 0 13 16 ∷
    printed 0 0 0 113 114 9 0 0 ∷
    printed 1 0 0 114 115 4 0 0 ∷
    printed 12 2 0 115 119 2519978093 0 0 ∷
    []
    ) ∷
    push 1 (0x04 ∷ 0x01 ∷ 0x96 ∷ 0x03 ∷ 0x06 ∷ 0x69 ∷ 0xCC ∷ 0x2F ∷ 0x92 ∷ 0xF5 ∷ 0x58 ∷ 0x01 ∷ 0x09 ∷ 0x96 ∷ 0x33 ∷ 0xD0 ∷ 0x6D ∷ 0x0A ∷ 0xA7 ∷ 0x44 ∷ 0xE1 ∷ 0x7E ∷ []) 22 (
    printed 4 7 1 100 122 0 1 21 ∷
    printed 47 8 1 100 103 0 2 8 ∷
    printed 0 0 1 100 101 4 0 0 ∷
    printed 1 0 1 101 102 1 0 0 ∷
    printed 16 0 1 102 103 150 0 0 ∷
    printed 35 0 1 102 103 1 0 0 ∷
    printed 36 0 1 102 103 0 0 0 ∷
    printed 37 0 1 102 103 0 0 0 ∷
    printed 47 8 1 103 111 0 9 14 ∷
    printed 0 0 1 103 104 3 0 0 ∷
    printed 1 0 1 104 105 6 0 0 ∷
    printed 16 0 1 105 106 105 0 0 ∷
    printed 18 0 1 106 107 204 0 0 ∷
    printed 19 2 1 107 111 798160216 0 0 ∷
    printed 47 8 1 111 122 0 15 21 ∷
    printed 0 0 1 111 112 1 0 0 ∷
    printed 1 0 1 112 113 9 0 0 ∷
    printed 34 7 1 113 121 0 18 20 ∷
    printed 55 2 1 113 117 2519978093 0 0 ∷
    printed 55 2 1 117 121 178734305 0 0 ∷
    printed 3 6 1 121 122 0 0 0 ∷
    []
    ) ∷
    push 2 (0x13 ∷ 0x02 ∷ 0x96 ∷ 0x33 ∷ 0x18 ∷ 0x01 ∷ 0x69 ∷ 0x17 ∷ 0x03 ∷ 0x96 ∷ 0x33 ∷ 0xD0 ∷ []) 12 (
    printed 4 7 2 100 112 0 1 19 ∷
    printed 47 8 2 100 104 0 2 7 ∷
    printed 0 0 2 100 101 19 0 0 ∷
    printed 1 0 2 101 102 2 0 0 ∷
    printed 41 7 2 102 104 0 5 7 ∷
    printed 56 0 2 102 103 150 0 0 ∷
    printed 56 0 2 103 104 51 0 0 ∷
    printed 47 8 2 104 107 0 8 11 ∷
    printed 0 0 2 104 105 24 0 0 ∷
    printed 1 0 2 105 106 1 0 0 ∷
    printed 43 0 2 106 107 105 0 0 ∷
    printed 47 8 2 107 112 0 12 19 ∷
    printed 0 0 2 107 108 23 0 0 ∷
    printed 1 0 2 108 109 3 0 0 ∷
    printed 42 7 2 109 111 0 15 18 ∷
    printed 51 8 2 109 111 0 16 18 ∷
    printed 52 0 2 109 110 150 0 0 ∷
    printed 53 0 2 110 111 51 0 0 ∷
    printed 3 6 2 111 112 0 0 0 ∷
    []
    ) ∷
    push 3 (0x01 ∷ 0x04 ∷ 0x96 ∷ 0x33 ∷ 0xD0 ∷ 0x6D ∷ 0x03 ∷ 0x05 ∷ 0x69 ∷ 0xCC ∷ 0x2F ∷ 0x92 ∷ 0xF5 ∷ []) 13 (
    printed 4 7 3 100 113 0 1 11 ∷
    printed 47 8 3 100 106 0 2 5 ∷
    printed 0 0 3 100 101 1 0 0 ∷
    printed 1 0 3 101 102 4 0 0 ∷
    printed 19 2 3 102 106 2519978093 0 0 ∷
    printed 47 8 3 106 113 0 6 11 ∷
    printed 0 0 3 106 107 3 0 0 ∷
    printed 1 0 3 107 108 5 0 0 ∷
    printed 16 0 3 108 109 105 0 0 ∷
    printed 18 0 3 109 110 204 0 0 ∷
    printed 19 2 3 110 113 1020661 0 0 ∷
    []
    ) ∷
    push 4 (0x01 ∷ 0x04 ∷ 0x96 ∷ 0x33 ∷ 0xD0 ∷ 0x6D ∷ 0x01 ∷ 0x03 ∷ 0x69 ∷ 0xCC ∷ 0x2F ∷ []) 11 (
    printed 4 7 4 100 111 0 1 12 ∷
    printed 47 8 4 100 106 0 2 8 ∷
    printed 0 0 4 100 101 1 0 0 ∷
    printed 1 0 4 101 102 4 0 0 ∷
    printed 30 0 4 102 103 150 0 0 ∷
    printed 31 0 4 103 104 51 0 0 ∷
    printed 32 0 4 104 105 208 0 0 ∷
    printed 33 0 4 105 106 109 0 0 ∷
    printed 47 8 4 106 111 0 9 12 ∷
    printed 0 0 4 106 107 1 0 0 ∷
    printed 1 0 4 107 108 3 0 0 ∷
    printed 2 6 4 108 111 0 0 0 ∷
    []
    ) ∷
    push 0 (0x12 ∷ 0x03 ∷ 0x96 ∷ 0x33 ∷ 0xD0 ∷ 0x12 ∷ []) 5 (
    printed 4 7 0 100 105 0 1 5 ∷
    printed 47 8 0 100 105 0 2 5 ∷
    printed 0 0 0 100 101 18 0 0 ∷
    printed 1 0 0 101 102 3 0 0 ∷
    printed 15 2 0 102 105 9843664 0 0 ∷
    printed 3 6 0 105 106 0 0 0 ∷
    []
    ) ∷
    push 1 (0x04 ∷ 0x01 ∷ 0x96 ∷ 0x04 ∷ 0x01 ∷ []) 3 (
    printed 4 7 1 100 103 0 1 8 ∷
    printed 47 8 1 100 103 0 2 8 ∷
    printed 0 0 1 100 101 4 0 0 ∷
    printed 1 0 1 101 102 1 0 0 ∷
    printed 16 0 1 102 103 150 0 0 ∷
    printed 35 0 1 102 103 1 0 0 ∷
    printed 36 0 1 102 103 0 0 0 ∷
    printed 37 0 1 102 103 0 0 0 ∷
    printed 3 6 1 103 105 0 0 0 ∷
    []
    ) ∷
    push 2 (0x13 ∷ 0x01 ∷ 0x96 ∷ 0x19 ∷ 0x02 ∷ 0x69 ∷ 0xCC ∷ 0x18 ∷ []) 7 (
    printed 4 7 2 100 107 0 1 10 ∷
    printed 47 8 2 100 103 0 2 6 ∷
    printed 0 0 2 100 101 19 0 0 ∷
    printed 1 0 2 101 102 1 0 0 ∷
    printed 41 7 2 102 103 0 5 6 ∷
    printed 56 0 2 102 103 150 0 0 ∷
    printed 47 8 2 103 107 0 7 10 ∷
    printed 0 0 2 103 104 25 0 0 ∷
    printed 1 0 2 104 105 2 0 0 ∷
    printed 44 1 2 105 107 27084 0 0 ∷
    printed 3 6 2 107 108 0 0 0 ∷
    []
    ) ∷
    push 3 (0x01 ∷ 0x03 ∷ 0x96 ∷ 0x33 ∷ 0xD0 ∷ 0x03 ∷ 0x06 ∷ 0x69 ∷ 0xCC ∷ 0x2F ∷ 0x92 ∷ 0xF5 ∷ 0x58 ∷ 0x01 ∷ 0x04 ∷ 0x5A ∷ 0xA7 ∷ 0x3C ∷ []) 13 (
    printed 4 7 3 100 113 0 1 11 ∷
    printed 47 8 3 100 105 0 2 5 ∷
    printed 0 0 3 100 101 1 0 0 ∷
    printed 1 0 3 101 102 3 0 0 ∷
    printed 19 2 3 102 105 406480 0 0 ∷
    printed 47 8 3 105 113 0 6 11 ∷
    printed 0 0 3 105 106 3 0 0 ∷
    printed 1 0 3 106 107 6 0 0 ∷
    printed 16 0 3 107 108 105 0 0 ∷
    printed 18 0 3 108 109 204 0 0 ∷
    printed 19 2 3 109 113 798160216 0 0 ∷
    printed 3 6 3 113 118 0 0 0 ∷
    []
    ) ∷
    push 4 (0x01 ∷ 0x04 ∷ 0x96 ∷ 0x33 ∷ 0xD0 ∷ 0x6D ∷ 0x01 ∷ []) 6 (
    printed 4 7 4 100 106 0 1 8 ∷
    printed 47 8 4 100 106 0 2 8 ∷
    printed 0 0 4 100 101 1 0 0 ∷
    printed 1 0 4 101 102 4 0 0 ∷
    printed 30 0 4 102 103 150 0 0 ∷
    printed 31 0 4 103 104 51 0 0 ∷
    printed 32 0 4 104 105 208 0 0 ∷
    printed 33 0 4 105 106 109 0 0 ∷
    printed 3 6 4 106 107 0 0 0 ∷
    []
    ) ∷
    push 5 (0x07 ∷ 0x02 ∷ 0x96 ∷ 0x33 ∷ 0x07 ∷ 0x02 ∷ 0x5A ∷ []) 4 (
    printed 4 7 5 100 104 0 1 5 ∷
    printed 47 8 5 100 104 0 2 5 ∷
    printed 0 0 5 100 101 7 0 0 ∷
    printed 1 0 5 101 102 2 0 0 ∷
    printed 2 6 5 102 104 0 0 0 ∷
    printed 3 6 5 104 107 0 0 0 ∷
    []
    ) ∷
    push 0 (0x12 ∷ 0x06 ∷ 0x12 ∷ 0x03 ∷ 0x5A ∷ 0xA7 ∷ 0x3C ∷ []) 0 (
    printed 4 7 0 100 100 0 1 1 ∷
    printed 3 6 0 100 107 0 0 0 ∷
    []
    ) ∷
    push 0 (0x12 ∷ 0xFF ∷ 0x96 ∷ 0x33 ∷ 0xD0 ∷ 0x6D ∷ 0x0A ∷ 0xA7 ∷ 0x44 ∷ 0xE1 ∷ 0x7E ∷ 0x1B ∷ 0xB8 ∷ 0x55 ∷ 0xF2 ∷ 0x8F ∷ 0x2C ∷ 0xC9 ∷ 0x66 ∷ 0x03 ∷ 0xA0 ∷ 0x3D ∷ 0xDA ∷ 0x77 ∷ 0x14 ∷ 0xB1 ∷ 0x4E ∷ 0xEB ∷ 0x88 ∷ 0x25 ∷ 0xC2 ∷ 0x5F ∷ 0xFC ∷ 0x99 ∷ 0x36 ∷ 0xD3 ∷ 0x70 ∷ 0x0D ∷ 0xAA ∷ 0x47 ∷ 0xE4 ∷ 0x81 ∷ 0x1E ∷ 0xBB ∷ 0x58 ∷ 0xF5 ∷ 0x92 ∷ 0x2F ∷ 0xCC ∷ 0x69 ∷ 0x06 ∷ 0xA3 ∷ 0x40 ∷ 0xDD ∷ 0x7A ∷ 0x17 ∷ 0xB4 ∷ 0x51 ∷ 0xEE ∷ 0x8B ∷ 0x28 ∷ 0xC5 ∷ 0x62 ∷ 0xFF ∷ 0x9C ∷ 0x39 ∷ 0xD6 ∷ 0x73 ∷ 0x10 ∷ 0xAD ∷ 0x4A ∷ 0xE7 ∷ 0x84 ∷ 0x21 ∷ 0xBE ∷ 0x5B ∷ 0xF8 ∷ 0x95 ∷ 0x32 ∷ 0xCF ∷ 0x6C ∷ 0x09 ∷ 0xA6 ∷ 0x43 ∷ 0xE0 ∷ 0x7D ∷ 0x1A ∷ 0xB7 ∷ 0x54 ∷ 0xF1 ∷ 0x8E ∷ 0x2B ∷ 0xC8 ∷ 0x65 ∷ 0x02 ∷ 0x9F ∷ 0x3C ∷ 0xD9 ∷ 0x76 ∷ 0x13 ∷ 0xB0 ∷ 0x4D ∷ 0xEA ∷ 0x87 ∷ 0x24 ∷ 0xC1 ∷ 0x5E ∷ 0xFB ∷ 0x98 ∷ 0x35 ∷ 0xD2 ∷ 0x6F ∷ 0x0C ∷ 0xA9 ∷ 0x46 ∷ 0xE3 ∷ 0x80 ∷ 0x1D ∷ 0xBA ∷ 0x57 ∷ 0xF4 ∷ 0x91 ∷ 0x2E ∷ 0xCB ∷ 0x68 ∷ 0x05 ∷ 0xA2 ∷ 0x3F ∷ 0xDC ∷ 0x79 ∷ 0x16 ∷ 0xB3 ∷ 0x50 ∷ 0xED ∷ 0x8A ∷ 0x27 ∷ 0xC4 ∷ 0x61 ∷ 0xFE ∷ 0x9B ∷ 0x38 ∷ 0xD5 ∷ 0x72 ∷ 0x0F ∷ 0xAC ∷ 0x49 ∷ 0xE6 ∷ 0x83 ∷ 0x20 ∷ 0xBD ∷ 0x5A ∷ 0xF7 ∷ 0x94 ∷ 0x31 ∷ 0xCE ∷ 0x6B ∷ 0x08 ∷ 0xA5 ∷ 0x42 ∷ 0xDF ∷ 0x7C ∷ 0x19 ∷ 0xB6 ∷ 0x53 ∷ 0xF0 ∷ 0x8D ∷ 0x2A ∷ 0xC7 ∷ 0x64 ∷ 0x01 ∷ 0x9E ∷ 0x3B ∷ 0xD8 ∷ 0x75 ∷ 0x12 ∷ 0xAF ∷ 0x4C ∷ 0xE9 ∷ 0x86 ∷ 0x23 ∷ 0xC0 ∷ 0x5D ∷ 0xFA ∷ 0x97 ∷ 0x34 ∷ 0xD1 ∷ 0x6E ∷ 0x0B ∷ 0xA8 ∷ 0x45 ∷ 0xE2 ∷ 0x7F ∷ 0x1C ∷ 0xB9 ∷ 0x56 ∷ 0xF3 ∷ 0x90 ∷ 0x2D ∷ 0xCA ∷ 0x67 ∷ 0x04 ∷ 0xA1 ∷ 0x3E ∷ 0xDB ∷ 0x78 ∷ 0x15 ∷ 0xB2 ∷ 0x4F ∷ 0xEC ∷ 0x89 ∷ 0x26 ∷ 0xC3 ∷ 0x60 ∷ 0xFD ∷ 0x9A ∷ 0x37 ∷ 0xD4 ∷ 0x71 ∷ 0x0E ∷ 0xAB ∷ 0x48 ∷ 0xE5 ∷ 0x82 ∷ 0x1F ∷ 0xBC ∷ 0x59 ∷ 0xF6 ∷ 0x93 ∷ 0x30 ∷ 0xCD ∷ 0x6A ∷ 0x07 ∷ 0xA4 ∷ 0x41 ∷ 0xDE ∷ 0x7B ∷ 0x18 ∷ 0xB5 ∷ 0x52 ∷ 0xEF ∷ 0x8C ∷ 0x29 ∷ 0xC6 ∷ 0x63 ∷ 0x00 ∷ 0x9D ∷ 0x3A ∷ 0xD7 ∷ 0x74 ∷ 0x11 ∷ 0xAE ∷ 0x4B ∷ 0xE8 ∷ 0x85 ∷ 0x22 ∷ 0xBF ∷ 0x5C ∷ 0x28 ∷ 0xFF ∷ 0x69 ∷ 0xCC ∷ 0x2F ∷ 0x92 ∷ 0xF5 ∷ 0x58 ∷ 0xBB ∷ 0x1E ∷ 0x81 ∷ 0xE4 ∷ 0x47 ∷ 0xAA ∷ 0x0D ∷ 0x70 ∷ 0xD3 ∷ 0x36 ∷ 0x99 ∷ 0xFC ∷ 0x5F ∷ 0xC2 ∷ 0x25 ∷ 0x88 ∷ 0xEB ∷ 0x4E ∷ 0xB1 ∷ 0x14 ∷ 0x77 ∷ 0xDA ∷ 0x3D ∷ 0xA0 ∷ 0x03 ∷ 0x66 ∷ 0xC9 ∷ 0x2C ∷ 0x8F ∷ 0xF2 ∷ 0x55 ∷ 0xB8 ∷ 0x1B ∷ 0x7E ∷ 0xE1 ∷ 0x44 ∷ 0xA7 ∷ 0x0A ∷ 0x6D ∷ 0xD0 ∷ 0x33 ∷ 0x96 ∷ 0xF9 ∷ 0x5C ∷ 0xBF ∷ 0x22 ∷ 0x85 ∷ 0xE8 ∷ 0x4B ∷ 0xAE ∷ 0x11 ∷ 0x74 ∷ 0xD7 ∷ 0x3A ∷ 0x9D ∷ 0x00 ∷ 0x63 ∷ 0xC6 ∷ 0x29 ∷ 0x8C ∷ 0xEF ∷ 0x52 ∷ 0xB5 ∷ 0x18 ∷ 0x7B ∷ 0xDE ∷ 0x41 ∷ 0xA4 ∷ 0x07 ∷ 0x6A ∷ 0xCD ∷ 0x30 ∷ 0x93 ∷ 0xF6 ∷ 0x59 ∷ 0xBC ∷ 0x1F ∷ 0x82 ∷ 0xE5 ∷ 0x48 ∷ 0xAB ∷ 0x0E ∷ 0x71 ∷ 0xD4 ∷ 0x37 ∷ 0x9A ∷ 0xFD ∷ 0x60 ∷ 0xC3 ∷ 0x26 ∷ 0x89 ∷ 0xEC ∷ 0x4F ∷ 0xB2 ∷ 0x15 ∷ 0x78 ∷ 0xDB ∷ 0x3E ∷ 0xA1 ∷ 0x04 ∷ 0x67 ∷ 0xCA ∷ 0x2D ∷ 0x90 ∷ 0xF3 ∷ 0x56 ∷ 0xB9 ∷ 0x1C ∷ 0x7F ∷ 0xE2 ∷ 0x45 ∷ 0xA8 ∷ 0x0B ∷ 0x6E ∷ 0xD1 ∷ 0x34 ∷ 0x97 ∷ 0xFA ∷ 0x5D ∷ 0xC0 ∷ 0x23 ∷ 0x86 ∷ 0xE9 ∷ 0x4C ∷ 0xAF ∷ 0x12 ∷ 0x75 ∷ 0xD8 ∷ 0x3B ∷ 0x9E ∷ 0x01 ∷ 0x64 ∷ 0xC7 ∷ 0x2A ∷ 0x8D ∷ 0xF0 ∷ 0x53 ∷ 0xB6 ∷ 0x19 ∷ 0x7C ∷ 0xDF ∷ 0x42 ∷ 0xA5 ∷ 0x08 ∷ 0x6B ∷ 0xCE ∷ 0x31 ∷ 0x94 ∷ 0xF7 ∷ 0x5A ∷ 0xBD ∷ 0x20 ∷ 0x83 ∷ 0xE6 ∷ 0x49 ∷ 0xAC ∷ 0x0F ∷ 0x72 ∷ 0xD5 ∷ 0x38 ∷ 0x9B ∷ 0xFE ∷ 0x61 ∷ 0xC4 ∷ 0x27 ∷ 0x8A ∷ 0xED ∷ 0x50 ∷ 0xB3 ∷ 0x16 ∷ 0x79 ∷ 0xDC ∷ 0x3F ∷ 0xA2 ∷ 0x05 ∷ 0x68 ∷ 0xCB ∷ 0x2E ∷ 0x91 ∷ 0xF4 ∷ 0x57 ∷ 0xBA ∷ 0x1D ∷ 0x80 ∷ 0xE3 ∷ 0x46 ∷ 0xA9 ∷ 0x0C ∷ 0x6F ∷ 0xD2 ∷ 0x35 ∷ 0x98 ∷ 0xFB ∷ 0x5E ∷ 0xC1 ∷ 0x24 ∷ 0x87 ∷ 0xEA ∷ 0x4D ∷ 0xB0 ∷ 0x13 ∷ 0x76 ∷ 0xD9 ∷ 0x3C ∷ 0x9F ∷ 0x02 ∷ 0x65 ∷ 0xC8 ∷ 0x2B ∷ 0x8E ∷ 0xF1 ∷ 0x54 ∷ 0xB7 ∷ 0x1A ∷ 0x7D ∷ 0xE0 ∷ 0x43 ∷ 0xA6 ∷ 0x09 ∷ 0x6C ∷ 0xCF ∷ 0x32 ∷ 0x95 ∷ 0xF8 ∷ 0x5B ∷ 0xBE ∷ 0x21 ∷ 0x84 ∷ 0xE7 ∷ 0x4A ∷ 0xAD ∷ 0x10 ∷ 0x73 ∷ 0xD6 ∷ 0x39 ∷ 0x9C ∷ 0xFF ∷ 0x62 ∷ 0xC5 ∷ 0x28 ∷ 0x8B ∷ 0xEE ∷ 0x51 ∷ 0xB4 ∷ 0x17 ∷ 0x7A ∷ 0xDD ∷ 0x40 ∷ 0xA3 ∷ []) 514 (
    printed 4 7 0 100 614 0 1 10 ∷
    printed 47 8 0 100 357 0 2 6 ∷
    printed 0 0 0 100 101 18 0 0 ∷
    printed 1 0 0 101 102 255 0 0 ∷
    printed 15 2 0 102 105 9843664 0 0 ∷
    printed 3 6 0 105 357 0 0 0 ∷
    printed 47 8 0 357 614 0 7 10 ∷
    printed 0 0 0 357 358 40 0 0 ∷
    printed 1 0 0 358 359 255 0 0 ∷
    printed 2 6 0 359 614 0 0 0 ∷
    []
    ) ∷
    push 0 (0x06 ∷ 0x04 ∷ 0x96 ∷ 0x33 ∷ 0xD0 ∷ 0x6D ∷ 0x28 ∷ 0xFF ∷ 0x5A ∷ []) 6 (
    printed 4 7 0 100 106 0 1 5 ∷
    printed 47 8 0 100 106 0 2 5 ∷
    printed 0 0 0 100 101 6 0 0 ∷
    printed 1 0 0 101 102 4 0 0 ∷
    printed 8 4 0 102 106 0 0 0 ∷
    printed 3 6 0 106 109 0 0 0 ∷
    []
    ) ∷
    push 1 (0x05 ∷ 0x1A ∷ 0x96 ∷ 0x33 ∷ 0xD0 ∷ 0x6D ∷ 0x0A ∷ 0xA7 ∷ 0x44 ∷ 0xE1 ∷ 0x7E ∷ 0x1B ∷ 0xB8 ∷ 0x55 ∷ 0xF2 ∷ 0x8F ∷ 0x2C ∷ 0xC9 ∷ 0x66 ∷ 0x03 ∷ 0xA0 ∷ 0x06 ∷ 0x01 ∷ 0x04 ∷ 0xA8 ∷ 0x53 ∷ 0x1C ∷ 0xE7 ∷ 0x04 ∷ 0x01 ∷ 0x5B ∷ []) 31 (
    printed 4 7 1 100 131 0 1 22 ∷
    printed 47 8 1 100 128 0 2 15 ∷
    printed 0 0 1 100 101 5 0 0 ∷
    printed 1 0 1 101 102 26 0 0 ∷
    printed 16 0 1 102 103 150 0 0 ∷
    printed 28 1 1 103 105 13264 0 0 ∷
    printed 29 5 1 105 121 0 0 0 ∷
    printed 4 7 4 122 128 0 8 15 ∷
    printed 47 8 4 122 128 0 9 15 ∷
    printed 0 0 4 122 123 1 0 0 ∷
    printed 1 0 4 123 124 4 0 0 ∷
    printed 30 0 4 124 125 168 0 0 ∷
    printed 31 0 4 125 126 83 0 0 ∷
    printed 32 0 4 126 127 28 0 0 ∷
    printed 33 0 4 127 128 231 0 0 ∷
    printed 47 8 1 128 131 0 16 22 ∷
    printed 0 0 1 128 129 4 0 0 ∷
    printed 1 0 1 129 130 1 0 0 ∷
    printed 16 0 1 130 131 91 0 0 ∷
    printed 35 0 1 130 131 0 0 0 ∷
    printed 36 0 1 130 131 1 0 0 ∷
    printed 37 0 1 130 131 0 0 0 ∷
    []
    ) ∷
    push 2 (0x02 ∷ 0x11 ∷ 0xC5 ∷ 0x8A ∷ 0x3B ∷ 0x5C ∷ 0x01 ∷ 0x03 ∷ 0xF9 ∷ 0x47 ∷ 0xD2 ∷ 0x75 ∷ 0xC4 ∷ 0xA3 ∷ 0x01 ∷ 0x04 ∷ 0xF6 ∷ 0xB8 ∷ 0x2D ∷ 0x18 ∷ 0x01 ∷ 0x5B ∷ []) 22 (
    printed 4 7 2 100 122 0 1 14 ∷
    printed 47 8 2 100 119 0 2 10 ∷
    printed 0 0 2 100 101 2 0 0 ∷
    printed 1 0 2 101 102 17 0 0 ∷
    printed 16 0 2 102 103 197 0 0 ∷
    printed 40 7 2 103 111 0 6 9 ∷
    printed 48 8 2 103 111 0 7 9 ∷
    printed 49 2 2 103 106 9059164 0 0 ∷
    printed 50 2 2 108 111 608210 0 0 ∷
    printed 3 6 2 111 119 0 0 0 ∷
    printed 47 8 2 119 122 0 11 14 ∷
    printed 0 0 2 119 120 24 0 0 ∷
    printed 1 0 2 120 121 1 0 0 ∷
    printed 43 0 2 121 122 91 0 0 ∷
    []
    ) ∷
    push 2 (0x19 ∷ 0x09 ∷ 0x7F ∷ 0xBE ∷ 0x01 ∷ 0x04 ∷ 0x57 ∷ 0xAC ∷ 0xE3 ∷ 0x18 ∷ 0x19 ∷ 0x13 ∷ 0x01 ∷ 0x5B ∷ []) 14 (
    printed 4 7 2 100 114 0 1 16 ∷
    printed 47 8 2 100 111 0 2 11 ∷
    printed 0 0 2 100 101 25 0 0 ∷
    printed 1 0 2 101 102 9 0 0 ∷
    printed 44 1 2 102 104 32702 0 0 ∷
    printed 4 7 5 104 110 0 6 10 ∷
    printed 47 8 5 104 110 0 7 10 ∷
    printed 0 0 5 104 105 1 0 0 ∷
    printed 1 0 5 105 106 4 0 0 ∷
    printed 2 6 5 106 110 0 0 0 ∷
    printed 3 6 5 110 111 0 0 0 ∷
    printed 47 8 2 111 114 0 12 16 ∷
    printed 0 0 2 111 112 19 0 0 ∷
    printed 1 0 2 112 113 1 0 0 ∷
    printed 41 7 2 113 114 0 15 16 ∷
    printed 56 0 2 113 114 91 0 0 ∷
    []
    ) ∷
    []

-- of each registry, the types that are read, each with the least length of a value that is
unfoldable pub rust_types : List (List (List ℕ))
rust_types =
    ((3 ∷ 4 ∷ []) ∷ (4 ∷ 8 ∷ []) ∷ (6 ∷ 4 ∷ []) ∷ (8 ∷ 4 ∷ []) ∷ (9 ∷ 4 ∷ []) ∷ (10 ∷ 4 ∷ []) ∷ (11 ∷ 32 ∷ []) ∷ (12 ∷ 16 ∷ []) ∷ (13 ∷ 16 ∷ []) ∷ (18 ∷ 3 ∷ []) ∷ (31 ∷ 5 ∷ []) ∷ (32 ∷ 11 ∷ []) ∷ (33 ∷ 4 ∷ []) ∷ (34 ∷ 8 ∷ []) ∷ (35 ∷ 4 ∷ []) ∷ (36 ∷ 4 ∷ []) ∷ (37 ∷ 4 ∷ []) ∷ (38 ∷ 4 ∷ []) ∷ (39 ∷ 4 ∷ []) ∷ (43 ∷ 21 ∷ []) ∷ (44 ∷ 27 ∷ []) ∷ []) ∷
    ((1 ∷ 4 ∷ []) ∷ (2 ∷ 8 ∷ []) ∷ (3 ∷ 5 ∷ []) ∷ (4 ∷ 1 ∷ []) ∷ (5 ∷ 19 ∷ []) ∷ (11 ∷ 4 ∷ []) ∷ (12 ∷ 16 ∷ []) ∷ []) ∷
    ((2 ∷ 1 ∷ []) ∷ (11 ∷ 4 ∷ []) ∷ (12 ∷ 16 ∷ []) ∷ (19 ∷ 0 ∷ []) ∷ (22 ∷ 1 ∷ []) ∷ (23 ∷ 0 ∷ []) ∷ (24 ∷ 1 ∷ []) ∷ (25 ∷ 2 ∷ []) ∷ []) ∷
    ((1 ∷ 3 ∷ []) ∷ (3 ∷ 5 ∷ []) ∷ []) ∷
    ((1 ∷ 4 ∷ []) ∷ []) ∷
    [] ∷
    []
