-- The group: each example as its crate has proved it. Assumes nothing.
use Rattle.tool_line.proofs.Examples as lines
use Rattle.change_normal.proofs.Examples as normal
use Rattle.tool_paste_model.proofs.Examples as moves
use Rattle.history.proofs.Examples as history
use Rattle.test_examples.specs.Starred.{Starred}

pub starred : Starred
starred =
    record {
      forth = (lines.starred).forth;
      back = (lines.starred).back;
      normal = (normal.examples).one;
      empty = (normal.examples).none;
      edits = history.examples;
      moved = (moves.starred).right;
    }
