-- One file more among the files in memory.
use Rattle.std.proofs.Common.{◌≡◌, ℕ, ◌+◌, ◌-◌, ◌<◌, ◌≤◌, List, [], ◌∷◌, ◌++◌, Some, cond, length, map, take, drop, reverse, get_or, slice_range, ◌∙◌, ap, refl, suc, arith}
use Rattle.std.proofs.lemmas.Grind.{common_steps}
use Rattle.std.proofs.lemmas.List.{reverse-append, map-append, take_more, drop-append-le, take-append-le}
use Rattle.std.proofs.Math.Seq.{drop-append_seam, take-append_seam, drop-append-add}
use Rattle.std.specs.List.{All}
use Rattle.std.specs.Str.{bytes_eq}
use Rattle.host_ports.specs.declared.file_store.HeldFile.{HeldFile}
use Rattle.host_ports.specs.FileMap.{file_named}
use Rattle.host_ports.specs.FileStore.{file_entry, file_map, IsInStore}

-- the file that came last counts first
pub file_map-append :
    (store : List ℕ) (files : List HeldFile) (file : HeldFile)
    → file_map store (files ++ file ∷ []) ≡ file_entry store file ∷ file_map store files
file_map-append store files file =
    ap reverse (map-append (file_entry store) files (file ∷ []))
    ∙ reverse-append (map (file_entry store) files) (file_entry store file ∷ [])

-- what the files up to a place hold, by what those before it hold
pub file_named-take_more :
    (store : List ℕ) (files : List HeldFile) (place : ℕ) (none : HeldFile) (name : List ℕ)
    → place < length files
    → let file = get_or files place none in
    file_named (file_map store (take (place + 1) files)) name
    ≡ cond (bytes_eq (slice_range store file.start file.middle) name)
    (Some (slice_range store file.middle file.end)) (file_named (file_map store (take place files)) name)
file_named-take_more store files place none name within =
    ap (λ xs. file_named (file_map store xs) name) (take_more files place none within)
    ∙ ap (λ files_now. file_named files_now name) (file_map-append store (take place files) (get_or files place none))

-- a range stays where more is stored after it
slice_range-append :
    (xs ys : List ℕ) (from to : ℕ) → from ≤ to → to ≤ length xs
    → slice_range (xs ++ ys) from to ≡ slice_range xs from to
slice_range-append xs ys from to ordered inside =
    let starts : from ≤ length xs = omega arith in
    let fits : to - from ≤ length (drop from xs) = grind (arith, common_steps) in
    ap (take (to - from)) (drop-append-le from xs ys starts) ∙ take-append-le (to - from) (drop from xs) ys fits

-- a file stays what it was where more is stored
pub file_entry-append :
    (store more : List ℕ) (file : HeldFile) → IsInStore store file → file_entry (store ++ more) file ≡ file_entry store file
file_entry-append store more file within =
    let last : file.middle ≤ length store = omega (arith, within.bytes, within.inside) in
    rw (
      slice_range-append store more file.start file.middle within.name last,
      slice_range-append store more file.middle file.end within.bytes within.inside,
    ) refl

-- all files stay what they were
map-file_entry :
    (store more : List ℕ) (files : List HeldFile)
    → All (IsInStore store) files → map (file_entry (store ++ more)) files ≡ map (file_entry store) files
map-file_entry store more [] within = refl
map-file_entry store more (file ∷ files) within =
    let first = file_entry-append store more file (within 0 file (omega arith)) in
    let later = map-file_entry store more files (λ k d inside. within (suc k) d (omega (arith, inside))) in
    rw (first, later) refl

-- a file that is stored after the others is the first of the map
pub file_map-push :
    (store : List ℕ) (files : List HeldFile) (name bytes : List ℕ) (file : HeldFile)
    → All (IsInStore store) files
    → file.start ≡ length store → file.middle ≡ length store + length name
    → file.end ≡ length store + length name + length bytes
    → file_map (store ++ (name ++ bytes)) (files ++ file ∷ []) ≡ (name, bytes) ∷ file_map store files
file_map-push store files name bytes file within start middle end =
    let named : slice_range (store ++ (name ++ bytes)) file.start file.middle ≡ name = rw (start, middle) (name_there) in
    let filled : slice_range (store ++ (name ++ bytes)) file.middle file.end ≡ bytes = rw (middle, end) (bytes_there) in
    let before = map-file_entry store (name ++ bytes) files within in
    file_map-append (store ++ (name ++ bytes)) files file ∙ rw (named, filled, before) refl
  where
    name_len : length store + length name - length store ≡ length name
    name_len = omega arith

    bytes_len : length store + length name + length bytes - (length store + length name) ≡ length bytes
    bytes_len = omega arith

    name_there : slice_range (store ++ (name ++ bytes)) (length store) (length store + length name) ≡ name
    name_there = rw (name_len, drop-append_seam store (name ++ bytes)) (take-append_seam name bytes)

    bytes_there :
        slice_range (store ++ (name ++ bytes)) (length store + length name) (length store + length name + length bytes)
        ≡ bytes
    bytes_there =
        rw (bytes_len, drop-append-add store (name ++ bytes) (length name), drop-append_seam name bytes)
        (grind (arith, common_steps))
