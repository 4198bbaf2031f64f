-- How often the real forms have failed, and how the last child ended.
use Rattle.std.specs.Prelude.{ℕ, Option}
use Rattle.cov_io.specs.declared.child.ChildSpawner.{ChildSpawner}
use Rattle.cov_io.specs.declared.folder.FolderStore.{FolderStore}
use Rattle.cov_io.specs.declared.stream.StreamSink.{StreamSink}

abbrev pub folder_faults : {R : Type 0} → FolderStore R → ℕ
folder_faults store = store.faults

abbrev pub stream_faults : {W : Type 0} → StreamSink W → ℕ
stream_faults sink = sink.faults

abbrev pub child_faults : {R : Type 0} → ChildSpawner R → ℕ
child_faults spawner = spawner.faults

abbrev pub child_last : {R : Type 0} → ChildSpawner R → Option ℕ
child_last spawner = spawner.last
