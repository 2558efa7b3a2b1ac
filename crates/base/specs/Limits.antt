-- The limits of document 01's "The sheet", by name. Definitions only. Assumes nothing.
use Rattle.std.specs.Prelude.{ℕ}

-- "w and h 0 to 1,024"
abbrev pub max_side : ℕ
max_side = 1024

-- "k palette entries, 0 to 255"
abbrev pub max_entries : ℕ
max_entries = 255

-- "Palette storage is 765 bytes, LAB storage 765 doubles"
abbrev pub storage : ℕ
storage = 765

-- "Permitted colours: absent, or 0 to 4,096"
abbrev pub max_permitted : ℕ
max_permitted = 4096

-- "at most 1,048,576 (a list of points likewise)"
abbrev pub max_changes : ℕ
max_changes = 1048576

-- "Points and shifts lie in -65,536..65,536, a margin in 0..65,536"
abbrev pub max_distance : ℕ
max_distance = 65536

-- "A journal has at most 2,147,483,647 bytes"
abbrev pub max_journal : ℕ
max_journal = 2147483647

-- document 02, E1: "Up to 8 sheets of one size"
abbrev pub max_layers : ℕ
max_layers = 8
