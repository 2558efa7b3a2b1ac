pub mod UndoTests
pub mod UndoKinds
