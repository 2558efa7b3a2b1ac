-- The numbers of document 01's table, each by its word. Definitions only. Assumes nothing.
use Rattle.std.specs.Prelude.{ℕ}

abbrev pub bad_sheet : ℕ
bad_sheet = 1

abbrev pub stray_index : ℕ
stray_index = 2

abbrev pub unfit_lab : ℕ
unfit_lab = 3

abbrev pub journal_damaged : ℕ
journal_damaged = 4

abbrev pub off_the_sheet : ℕ
off_the_sheet = 5

abbrev pub no_such_index : ℕ
no_such_index = 6

abbrev pub no_such_entry : ℕ
no_such_entry = 7

abbrev pub palette_full : ℕ
palette_full = 8

abbrev pub last_entry : ℕ
last_entry = 9

abbrev pub colour_not_permitted : ℕ
colour_not_permitted = 10

abbrev pub stale : ℕ
stale = 11

abbrev pub bad_remap : ℕ
bad_remap = 12

abbrev pub still_used : ℕ
still_used = 13

abbrev pub journal_full : ℕ
journal_full = 14

abbrev pub too_far : ℕ
too_far = 15

abbrev pub no_space : ℕ
no_space = 16

abbrev pub bad_clip : ℕ
bad_clip = 17

abbrev pub bad_merge : ℕ
bad_merge = 18

abbrev pub short_pixels : ℕ
short_pixels = 19

abbrev pub root_range : ℕ
root_range = 20

abbrev pub list_too_long : ℕ
list_too_long = 21

abbrev pub unread_frame : ℕ
unread_frame = 22

-- document 02, E1
abbrev pub layers_differ : ℕ
layers_differ = 23

-- document 02, E5
abbrev pub entry_locked : ℕ
entry_locked = 24

-- document 02, E6
abbrev pub unfit_curve : ℕ
unfit_curve = 25

abbrev pub journal_in_use : ℕ
journal_in_use = 26

-- document 02, E8
abbrev pub joined_too_long : ℕ
joined_too_long = 27

-- document 02, E12
abbrev pub flat_misfit : ℕ
flat_misfit = 28
