use Rattle.std.proofs.Common.{◌≡◌, Some, None, take, slice_range}
use Rattle.std.specs.Option.{MatchOption}
use Rattle.host_ports.specs.FileMap.{file_named}
use Rattle.host_ports.specs.FileStore.{file_map, IsInStore}
use Rattle.host_ports.proofs.file_store.newest_file.Given as goal

-- what was found among the files so far
abbrev pub invariant-loop-place : goal.invariant-loop-place
invariant-loop-place l =
    let files = file_map l.stored (take l.place l.files) in
    MatchOption l.found
    (file_named files l.name ≡ None)
    (λ file. IsInStore l.stored file × (file_named files l.name ≡ Some (slice_range l.stored file.middle file.end)))
