-- `write::put_list` meets its contract: by kinds of list. Assumes nothing.
use lib.ListN.{length-map}
use Rattle.edit.specs.List.{filled_list}
use Rattle.journal_write.specs.List.{within, Puttable}
use Rattle.journal_write.proofs.write.put_list.Goals as goal

pub put_changes-requires : goal.put_changes-requires
unfolding Puttable
put_changes-requires c = rw (length-map) at (rw c.in-RemapList.is at c.requires)

pub returns-in-NoList : goal.returns-in-NoList
unfolding within
returns-in-NoList c = rw c.in-NoList.is

pub returns-in-PixelList : goal.returns-in-PixelList
unfolding within filled_list
returns-in-PixelList c = rw c.in-PixelList.is c.put_filled.ensures

pub returns-in-RemapList : goal.returns-in-RemapList
unfolding within filled_list
returns-in-RemapList c = rw c.in-RemapList.is c.put_changes.ensures

pub put_filled-requires : goal.put_filled-requires
unfolding Puttable
put_filled-requires c =
    let w = rw (length-map) at (rw c.in-PixelList.is at c.requires) in
    record { list_in_bounds = w.0; list_value = w.1 }
