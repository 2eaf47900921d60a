-- The text of a line that could not be read. Assumes nothing.
use Rattle.std.specs.Prelude.{ℕ, List, cond, ◌&&◌, nat_lt, ◌++◌, codes, length, take, map}

-- a byte, or a dot where it is no printable ASCII
abbrev pub glyph : ℕ → ℕ
glyph b = cond (nat_lt 31 b && nat_lt b 127) b 46

-- as many of its bytes as are shown
abbrev pub most_shown : ℕ
most_shown = 60

-- its first bytes, and dots where it has more
abbrev pub unread : List ℕ → List ℕ
unread bytes =
    codes "not read: \"" ++ map glyph (take most_shown bytes)
    ++ cond (nat_lt most_shown (length bytes)) (codes "...\"") (codes "\"")
