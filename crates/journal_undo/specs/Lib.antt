pub mod UndoTests
