-- The examples of document 01, 'Octets and what they become', and the one of docs/MEANING.md; and tapes of document 02's request 09.
use Rattle.std.specs.Prelude.{true, false, List, [], ◌∷◌, ◌++◌, replicate}
use Rattle.meaning.specs.Examples.Example.{printed, Case, push_at, refused_push, walk, onto, mask, push}

-- those marked [P]
unfoldable pub cases : List Case
cases =
    push 0 [] 0 [] ∷
    push 0 (0x12 ∷ []) 0 (
    printed 4 7 0 100 100 0 1 1 ∷
    printed 3 6 0 100 101 0 0 0 ∷
    []
    ) ∷
    push 0 (0x12 ∷ 0x03 ∷ 0x00 ∷ 0x00 ∷ 0x0A ∷ []) 5 (
    printed 4 7 0 100 105 0 1 5 ∷
    printed 47 8 0 100 105 0 2 5 ∷
    printed 0 0 0 100 101 18 0 0 ∷
    printed 1 0 0 101 102 3 0 0 ∷
    printed 15 2 0 102 105 10 0 0 ∷
    []
    ) ∷
    push 0 (0x12 ∷ 0x03 ∷ 0x00 ∷ 0x00 ∷ []) 0 (
    printed 4 7 0 100 100 0 1 1 ∷
    printed 3 6 0 100 104 0 0 0 ∷
    []
    ) ∷
    push 0 (0x12 ∷ 0x02 ∷ 0x00 ∷ 0x0A ∷ []) 4 (
    printed 4 7 0 100 104 0 1 5 ∷
    printed 47 8 0 100 104 0 2 5 ∷
    printed 0 0 0 100 101 18 0 0 ∷
    printed 1 0 0 101 102 2 0 0 ∷
    printed 2 6 0 102 104 0 0 0 ∷
    []
    ) ∷
    push 2 (0x13 ∷ 0x00 ∷ []) 2 (
    printed 4 7 2 100 102 0 1 5 ∷
    printed 47 8 2 100 102 0 2 5 ∷
    printed 0 0 2 100 101 19 0 0 ∷
    printed 1 0 2 101 102 0 0 0 ∷
    printed 41 7 2 102 102 0 5 5 ∷
    []
    ) ∷
    push 3 (0x01 ∷ 0x03 ∷ 0xFF ∷ 0xFF ∷ 0xFF ∷ []) 5 (
    printed 4 7 3 100 105 0 1 5 ∷
    printed 47 8 3 100 105 0 2 5 ∷
    printed 0 0 3 100 101 1 0 0 ∷
    printed 1 0 3 101 102 3 0 0 ∷
    printed 19 2 3 102 105 1048575 0 0 ∷
    []
    ) ∷
    push 3 (0x01 ∷ 0x04 ∷ 0x00 ∷ 0x0F ∷ 0x42 ∷ 0x40 ∷ []) 6 (
    printed 4 7 3 100 106 0 1 5 ∷
    printed 47 8 3 100 106 0 2 5 ∷
    printed 0 0 3 100 101 1 0 0 ∷
    printed 1 0 3 101 102 4 0 0 ∷
    printed 19 2 3 102 106 1000000 0 0 ∷
    []
    ) ∷
    push 2 (0x02 ∷ 0x09 ∷ 0xC0 ∷ 0x00 ∷ 0x03 ∷ 0xE8 ∷ 0x01 ∷ 0x03 ∷ 0x00 ∷ 0x3E ∷ 0x80 ∷ []) 11 (
    printed 4 7 2 100 111 0 1 9 ∷
    printed 47 8 2 100 111 0 2 9 ∷
    printed 0 0 2 100 101 2 0 0 ∷
    printed 1 0 2 101 102 9 0 0 ∷
    printed 16 0 2 102 103 192 0 0 ∷
    printed 40 7 2 103 111 0 6 9 ∷
    printed 48 8 2 103 111 0 7 9 ∷
    printed 49 2 2 103 106 1000 0 0 ∷
    printed 50 2 2 108 111 16000 0 0 ∷
    []
    ) ∷
    push 2 (0x02 ∷ 0x09 ∷ 0xC0 ∷ 0x00 ∷ 0x03 ∷ 0xE8 ∷ 0x02 ∷ 0x03 ∷ 0x00 ∷ 0x3E ∷ 0x80 ∷ []) 11 (
    printed 4 7 2 100 111 0 1 7 ∷
    printed 47 8 2 100 111 0 2 7 ∷
    printed 0 0 2 100 101 2 0 0 ∷
    printed 1 0 2 101 102 9 0 0 ∷
    printed 16 0 2 102 103 192 0 0 ∷
    printed 40 7 2 103 103 0 6 6 ∷
    printed 3 6 2 103 111 0 0 0 ∷
    []
    ) ∷
    push 2 (0x19 ∷ 0x03 ∷ 0x80 ∷ 0x00 ∷ 0x07 ∷ []) 5 (
    printed 4 7 2 100 105 0 1 7 ∷
    printed 47 8 2 100 105 0 2 7 ∷
    printed 0 0 2 100 101 25 0 0 ∷
    printed 1 0 2 101 102 3 0 0 ∷
    printed 44 1 2 102 104 32768 0 0 ∷
    printed 4 7 5 104 104 0 6 6 ∷
    printed 3 6 5 104 105 0 0 0 ∷
    []
    ) ∷
    push 1 (0x04 ∷ 0x01 ∷ 0xA0 ∷ []) 3 (
    printed 4 7 1 100 103 0 1 8 ∷
    printed 47 8 1 100 103 0 2 8 ∷
    printed 0 0 1 100 101 4 0 0 ∷
    printed 1 0 1 101 102 1 0 0 ∷
    printed 16 0 1 102 103 160 0 0 ∷
    printed 35 0 1 102 103 1 0 0 ∷
    printed 36 0 1 102 103 0 0 0 ∷
    printed 37 0 1 102 103 1 0 0 ∷
    []
    ) ∷
    mask 13 (0xFF ∷ 0xFF ∷ []) (0xFF ∷ 0xF8 ∷ []) ∷
    mask 16 (0xFF ∷ 0xFF ∷ []) (0xFF ∷ 0xFF ∷ []) ∷
    []

-- the others
unfoldable pub others : List Case
others =
    -- 0, type 11: 31 octets give `value`; 32 give 13 records; 33 add raw
    push 0 (0x0B ∷ 31 ∷ replicate 31 0x07) 33 (
    printed 4 7 0 100 133 0 1 5 ∷
    printed 47 8 0 100 133 0 2 5 ∷
    printed 0 0 0 100 101 11 0 0 ∷
    printed 1 0 0 101 102 31 0 0 ∷
    printed 2 6 0 102 133 0 0 0 ∷
    []
    ) ∷
    push 0 (0x0B ∷ 32 ∷ replicate 32 0x07) 34 (
    printed 4 7 0 100 134 0 1 13 ∷
    printed 47 8 0 100 134 0 2 13 ∷
    printed 0 0 0 100 101 11 0 0 ∷
    printed 1 0 0 101 102 32 0 0 ∷
    printed 14 7 0 102 134 0 5 13 ∷
    printed 54 2 0 102 106 117901063 0 0 ∷
    printed 54 2 0 106 110 117901063 0 0 ∷
    printed 54 2 0 110 114 117901063 0 0 ∷
    printed 54 2 0 114 118 117901063 0 0 ∷
    printed 54 2 0 118 122 117901063 0 0 ∷
    printed 54 2 0 122 126 117901063 0 0 ∷
    printed 54 2 0 126 130 117901063 0 0 ∷
    printed 54 2 0 130 134 117901063 0 0 ∷
    []
    ) ∷
    push 0 (0x0B ∷ 33 ∷ replicate 33 0x07) 35 (
    printed 4 7 0 100 135 0 1 14 ∷
    printed 47 8 0 100 135 0 2 14 ∷
    printed 0 0 0 100 101 11 0 0 ∷
    printed 1 0 0 101 102 33 0 0 ∷
    printed 14 7 0 102 134 0 5 13 ∷
    printed 54 2 0 102 106 117901063 0 0 ∷
    printed 54 2 0 106 110 117901063 0 0 ∷
    printed 54 2 0 110 114 117901063 0 0 ∷
    printed 54 2 0 114 118 117901063 0 0 ∷
    printed 54 2 0 118 122 117901063 0 0 ∷
    printed 54 2 0 122 126 117901063 0 0 ∷
    printed 54 2 0 126 130 117901063 0 0 ∷
    printed 54 2 0 130 134 117901063 0 0 ∷
    printed 3 6 0 134 135 0 0 0 ∷
    []
    ) ∷
    -- 1, type 5, 20 octets, last one 01: raw 121-122; last one 00: no array, no raw
    push 1 (0x05 ∷ 20 ∷ replicate 19 0x07 ++ (0x01 ∷ [])) 22 (
    printed 4 7 1 100 122 0 1 8 ∷
    printed 47 8 1 100 122 0 2 8 ∷
    printed 0 0 1 100 101 5 0 0 ∷
    printed 1 0 1 101 102 20 0 0 ∷
    printed 16 0 1 102 103 7 0 0 ∷
    printed 28 1 1 103 105 1799 0 0 ∷
    printed 29 5 1 105 121 0 0 0 ∷
    printed 3 6 1 121 122 0 0 0 ∷
    []
    ) ∷
    push 1 (0x05 ∷ 20 ∷ replicate 19 0x07 ++ (0x00 ∷ [])) 22 (
    printed 4 7 1 100 122 0 1 7 ∷
    printed 47 8 1 100 122 0 2 7 ∷
    printed 0 0 1 100 101 5 0 0 ∷
    printed 1 0 1 101 102 20 0 0 ∷
    printed 16 0 1 102 103 7 0 0 ∷
    printed 28 1 1 103 105 1799 0 0 ∷
    printed 29 5 1 105 121 0 0 0 ∷
    []
    ) ∷
    -- third case, room 4: answer 5, needed 5 (room 5: done, above)
    refused_push 4 100 0 (0x12 ∷ 0x03 ∷ 0x00 ∷ 0x00 ∷ 0x0A ∷ []) 5 5 ∷
    -- base 4,294,967,290: 5 octets pass, 6 get answer 3
    push_at 4294967290 0 (0x12 ∷ 0x03 ∷ 0x00 ∷ 0x00 ∷ 0x0A ∷ []) 5 (
    printed 4 7 0 4294967290 4294967295 0 1 5 ∷
    printed 47 8 0 4294967290 4294967295 0 2 5 ∷
    printed 0 0 0 4294967290 4294967291 18 0 0 ∷
    printed 1 0 0 4294967291 4294967292 3 0 0 ∷
    printed 15 2 0 4294967292 4294967295 10 0 0 ∷
    []
    ) ∷
    refused_push 6 4294967290 0 (0x12 ∷ 0x03 ∷ 0x00 ∷ 0x00 ∷ 0x0A ∷ 0x00 ∷ []) 3 0 ∷
    -- the area that docs/MEANING.md works out
    push 0 (0x12 ∷ 0x03 ∷ 0x00 ∷ 0x00 ∷ 0x0A ∷ 0x1F ∷ 0x05 ∷ 0x30 ∷ 0x00 ∷ 0x00 ∷ 0x5D ∷ 0xC5 ∷ 0x21 ∷ 0x04 ∷ 0x80 ∷ 0x00 ∷ 0x03 ∷ 0xE8 ∷ 0x2B ∷ 0x1C ∷ 0x00 ∷ 0x00 ∷ 0x00 ∷ 0x00 ∷ 0x05 ∷ 0xFC ∷ 0x00 ∷ 0x00 ∷ 0x00 ∷ 0x00 ∷ 0x01 ∷ 0x00 ∷ 0x00 ∷ 0xE0 ∷ 0x01 ∷ 0x00 ∷ 0x00 ∷ 0x00 ∷ 0x00 ∷ 0x00 ∷ 0x00 ∷ 0x06 ∷ 0x01 ∷ 0x04 ∷ 0x28 ∷ 0x10 ∷ 0x10 ∷ 0x00 ∷ 0x06 ∷ 0x04 ∷ 0x0A ∷ 0x00 ∷ []) 48 (
    printed 4 7 0 100 148 0 1 32 ∷
    printed 47 8 0 100 105 0 2 5 ∷
    printed 0 0 0 100 101 18 0 0 ∷
    printed 1 0 0 101 102 3 0 0 ∷
    printed 15 2 0 102 105 10 0 0 ∷
    printed 47 8 0 105 112 0 6 11 ∷
    printed 0 0 0 105 106 31 0 0 ∷
    printed 1 0 0 106 107 5 0 0 ∷
    printed 16 0 0 107 108 48 0 0 ∷
    printed 17 0 0 108 109 0 0 0 ∷
    printed 19 2 0 109 112 24005 0 0 ∷
    printed 47 8 0 112 118 0 12 16 ∷
    printed 0 0 0 112 113 33 0 0 ∷
    printed 1 0 0 113 114 4 0 0 ∷
    printed 21 0 0 114 115 1 0 0 ∷
    printed 22 2 0 115 118 1000 0 0 ∷
    printed 47 8 0 118 148 0 17 32 ∷
    printed 0 0 0 118 119 43 0 0 ∷
    printed 1 0 0 119 120 28 0 0 ∷
    printed 16 0 0 120 121 0 0 0 ∷
    printed 18 0 0 121 122 0 0 0 ∷
    printed 17 0 0 122 123 0 0 0 ∷
    printed 28 1 0 123 125 5 0 0 ∷
    printed 29 5 0 125 141 0 0 0 ∷
    printed 4 7 4 142 148 0 25 32 ∷
    printed 47 8 4 142 148 0 26 32 ∷
    printed 0 0 4 142 143 1 0 0 ∷
    printed 1 0 4 143 144 4 0 0 ∷
    printed 30 0 4 144 145 40 0 0 ∷
    printed 31 0 4 145 146 16 0 0 ∷
    printed 32 0 4 146 147 16 0 0 ∷
    printed 33 0 4 147 148 0 0 0 ∷
    printed 3 6 0 148 152 0 0 0 ∷
    []
    ) ∷
    -- a walk leaves the remainder: the second case and the fourth, walked
    walk 0 (0x12 ∷ []) 0 (
    printed 4 7 0 100 100 0 1 1 ∷
    []
    ) ∷
    walk 0 (0x12 ∷ 0x03 ∷ 0x00 ∷ 0x00 ∷ []) 0 (
    printed 4 7 0 100 100 0 1 1 ∷
    []
    ) ∷
    -- the second case, pushed behind two records of any words, on a tape with room for four and a word to spare
    onto false (2 ∷ 4 ∷ 6 ∷ 0 ∷ replicate 12 9 ++ replicate 13 7) 0 (0x12 ∷ []) 0 0 2 2
    (4 ∷ 4 ∷ 6 ∷ 0 ∷ replicate 12 9 ++ (1796 ∷ 100 ∷ 100 ∷ 0 ∷ 3 ∷ 3 ∷ 1539 ∷ 100 ∷ 101 ∷ 0 ∷ 0 ∷ 0 ∷ 7 ∷ [])) ∷
    -- registry 6: answer 1
    refused_push 5 100 6 (0x12 ∷ []) 1 0 ∷
    -- a header that is not in order: answer 4
    onto false (0 ∷ 4 ∷ 5 ∷ 0 ∷ replicate 12 0) 0 (0x12 ∷ []) 4 0 0 0 (0 ∷ 4 ∷ 5 ∷ 0 ∷ replicate 12 0) ∷
    -- two records needed, and room for one behind two: answer 5
    onto false (2 ∷ 4 ∷ 6 ∷ 0 ∷ replicate 18 9) 0 (0x12 ∷ []) 5 0 0 2 (2 ∷ 4 ∷ 6 ∷ 0 ∷ replicate 18 9) ∷
    []

-- on tapes of the slim layout: words worked out by hand
unfoldable pub slim_cases : List Case
slim_cases =
    -- the second case, pushed behind two records of any words, on a tape with room for five and a word to spare
    onto true (2 ∷ 4 ∷ 4 ∷ 0 ∷ replicate 8 9 ++ replicate 13 7) 0 (0x12 ∷ []) 0 0 2 2
    (4 ∷ 4 ∷ 4 ∷ 0 ∷ replicate 8 9 ++ (
    1796 ∷ 429496729700 ∷ 0 ∷ 12884901891 ∷
    1539 ∷ 433791696996 ∷ 0 ∷ 0 ∷
    []
    ) ++ replicate 5 7) ∷
    -- 4: a usual header for the slim call, a slim header for the usual one
    onto true (0 ∷ 4 ∷ 6 ∷ 0 ∷ replicate 12 0) 0 (0x12 ∷ []) 4 0 0 0 (0 ∷ 4 ∷ 6 ∷ 0 ∷ replicate 12 0) ∷
    onto false (0 ∷ 4 ∷ 4 ∷ 0 ∷ replicate 12 0) 0 (0x12 ∷ []) 4 0 0 0 (0 ∷ 4 ∷ 4 ∷ 0 ∷ replicate 12 0) ∷
    -- 5: two records are needed, and there is room for one, with three words over
    onto true (2 ∷ 4 ∷ 4 ∷ 0 ∷ replicate 15 9) 0 (0x12 ∷ []) 5 0 0 2 (2 ∷ 4 ∷ 4 ∷ 0 ∷ replicate 15 9) ∷
    []
