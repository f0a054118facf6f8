-- The definitions, run on small cases.
use Rattle.std.proofs.Common.{◌≡◌, ◌-◌, ◌^◌, [], ◌∷◌, Some, None, true, false, refl, codes}
use Rattle.history.specs.Loads.{new_load}
use Rattle.host_ports.specs.FileMap.{FileMap, file_named}
use Rattle.host_ports.specs.NumberedCalls.{one_more, no_calls, fails_next, counted}
use Rattle.host_ports.specs.FilesState.{IsPlain}
use Rattle.host_ports.specs.MemFiles.{MemFilesView, new_files, after_begin, after_pull, after_save, is_refused, given_by}
use Rattle.host_ports.specs.MemSource.{MemSourceView, new_source, after_listen}
use Rattle.host_ports.specs.MemSink.{MemSinkView, new_sink, is_cut, sent_count, after_say}

-- of two files of one name the first counts
two : FileMap
two = (codes "a", codes "new") ∷ (codes "b", codes "other") ∷ (codes "a", codes "old") ∷ []

first_counts : file_named two (codes "a") ≡ Some (codes "new")
unfolding two
first_counts = refl

missing : file_named two (codes "c") ≡ None
unfolding two
missing = refl

-- counts stop at 2^64 - 1
counts_on : one_more 41 ≡ 42
counts_on = refl

stops : one_more (2 ^ 64 - 1) ≡ 2 ^ 64 - 1
stops = refl

-- of the calls 1, 2 and 3 the second fails
first_call : fails_next (no_calls (2 ∷ [])) ≡ false
first_call = refl

second_call : fails_next (counted (no_calls (2 ∷ [])) false) ≡ true
second_call = refl

third_call : fails_next (counted (counted (no_calls (2 ∷ [])) false) true) ≡ false
third_call = refl

-- a source of seven bytes in pieces of three, into a buffer of eight
source : MemSourceView
source = new_source (codes "abcdefg") 3 (2 ∷ [])

one_piece : (after_listen source 8).rest ≡ codes "defg"
unfolding source
one_piece = refl

-- the same, of which no call fails
calm : MemSourceView
calm = new_source (codes "abcdefg") 3 []

-- its second call fails: it takes nothing, and is a fault
no_piece : after_listen (after_listen source 8) 8 ≡ record {
  rest = codes "defg";
  came = codes "abc";
  ended = false;
  taken = 3;
  piece = 3;
  calls = record { made = 2; fails = 2 ∷ []; faults = 1 };
}
unfolding source
no_piece = refl

-- three pieces are all of it, and the next one, which is empty, is its end
all_came : (after_listen (after_listen (after_listen calm 8) 8) 8).ended ≡ false
unfolding calm
all_came = refl

at_end : (after_listen (after_listen (after_listen (after_listen calm 8) 8) 8) 8).ended ≡ true
unfolding calm
at_end = refl

-- a sink with room for eight bytes
sink : MemSinkView
sink = after_say (new_sink 8 (3 ∷ [])) (codes "12345")

cut_at_eight : after_say sink (codes "6789") ≡ record {
  said = codes "12345678";
  room = 8;
  calls = record { made = 2; fails = 3 ∷ []; faults = 1 };
}
unfolding sink
cut_at_eight = refl

fits_exactly : is_cut sink (codes "678") ≡ false
unfolding sink
fits_exactly = refl

silent_by_number : sent_count (after_say sink (codes "6")) (codes "7") ≡ 0
unfolding sink
silent_by_number = refl

-- files whose second call fails
files : MemFilesView
files = record (new_files 0 (2 ∷ [])) { files = two }

-- files whose calls succeed
whole : MemFilesView
whole = record (new_files 0 []) { files = two }

begun : (after_begin files (codes "a")).rest ≡ codes "new"
unfolding files two
begun = refl

failed_pull : (after_pull (after_begin files (codes "a")) 2).rest ≡ codes "new"
unfolding files two
failed_pull = refl

-- what came of the two files that were begun, and of a name that is not held
loaded : (after_begin (after_pull (after_begin (after_begin whole (codes "c")) (codes "b")) 9) (codes "a")).loads
    ≡ new_load (codes "a") true
    ∷ record { name = codes "b"; begun = true; bytes = codes "other"; ended = false }
    ∷ new_load (codes "c") false
    ∷ []
unfolding whole two
loaded = refl

ended : (after_pull (after_pull (after_begin whole (codes "b")) 9) 9).loads
    ≡ record { name = codes "b"; begun = true; bytes = codes "other"; ended = true } ∷ []
unfolding whole two
ended = refl

pulled : (after_pull (after_pull (after_begin files (codes "a")) 2) 2).rest ≡ codes "w"
unfolding files two
pulled = refl

-- a name that is not held is no fault
not_held : (after_begin files (codes "c")).calls ≡ record { made = 1; fails = 2 ∷ []; faults = 0 }
unfolding files two
not_held = refl

-- a save is the first of its name and takes room, and one that is longer than the room left is a fault
saved : after_save (new_files 5 []) (codes "a") (codes "new") ≡ record (new_files 1 []) {
  files = (codes "a", codes "new") ∷ [];
  calls = record { made = 1; fails = []; faults = 0 };
  saves = 1;
  saved = (codes "a", codes "new") ∷ [];
}
saved = refl

too_long : after_save (new_files 5 []) (codes "a") (codes "newer") ≡ record (new_files 5 []) {
  calls = record { made = 1; fails = []; faults = 0 };
  saves = 1;
  save_faults = 1;
}
too_long = refl

-- the sixteenth save is let through, the seventeenth is not
sixteenth : is_refused (record (new_files 1 []) { saves = 15 }) (codes "a") [] ≡ false
sixteenth = refl

seventeenth : is_refused (record (new_files 1 []) { saves = 16 }) (codes "a") [] ≡ true
seventeenth = refl

-- files are plain where nothing is laid
plain : IsPlain (given_by None)
plain bytes within = refl
