use Rattle.std.proofs.Common.{◌≡◌, ◌+◌, length, append_assoc, arith}
use Rattle.std.proofs.lemmas.Grind.{common_steps}
use Rattle.host_ports.proofs.FileStores.{file_map-push}
use Rattle.host_ports.proofs.file_store.FileStore.push.Goals as goal

-- the file that came last is the first of the map
pub returns-clause-files : goal.returns-clause-files
returns-clause-files c =
    let stored = c.self.inside.stored.items in
    let name = c.args.name.now in
    let bytes = c.args.bytes.now in
    let all = append_assoc stored name bytes in
    let start : c.len-start.result ≡ length stored = grind (arith, common_steps) in
    let middle : c.len-middle.result ≡ length stored + length name = grind (arith, common_steps) in
    let end : c.len-end.result ≡ length stored + length name + length bytes = grind (arith, common_steps) in
    rw (c.push_reserved.ensures.items, c.append-2.ensures.items, c.append.ensures.items, c.as_bytes.ensures.value, all, ← c.self.view_is)
    (file_map-push stored c.self.inside.files.items name bytes _ c.self.invariant start middle end)
