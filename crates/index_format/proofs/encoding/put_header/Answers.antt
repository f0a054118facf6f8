use Rattle.std.proofs.Common.{◌≡◌, ℕ, List, [], ◌∷◌, ◌++◌, refl, append_assoc, append-nil, rules}
use Rattle.std.specs.Int.{w64, cast_unsigned}
use Rattle.std.specs.List.{flat_map}
use Rattle.track_types.specs.Spelling.{spelling_of}
use Rattle.index_format.specs.declared.header.Header.{Header}
use Rattle.index_format.specs.Spelling.{magic, long_bytes, header_bytes, fields_bytes, size_bytes, sizes_of, signed_bytes}
use Rattle.index_format.proofs.encoding.put_header.Goals as goal

-- the three pieces are the header
pieces : (out : List ℕ) (h : Header)
    → ((out ++ magic h.frame.version) ++ size_bytes (spelling_of h.frame.version) (sizes_of h))
    ++ flat_map long_bytes (cast_unsigned w64 h.frame.first ∷ cast_unsigned w64 h.frame.base.x
    ∷ cast_unsigned w64 h.frame.base.y ∷ h.frame.cell ∷ h.frame.tick ∷ [])
    ≡ out ++ header_bytes h
unfolding header_bytes fields_bytes signed_bytes
pieces out h = simp (append_assoc, append-nil) refl

pub returns : goal.returns
returns c =
    let places : c.places_of.result ≡ cast_unsigned w64 c.args.header.now.frame.first
    ∷ cast_unsigned w64 c.args.header.now.frame.base.x ∷ cast_unsigned w64 c.args.header.now.frame.base.y
    ∷ c.args.header.now.frame.cell ∷ c.args.header.now.frame.tick ∷ [] = search rules in
    rw (c.in_ok-put_longs.ensures, places, c.in_ok-put_sizes.ensures, c.in_ok-extend_from_slice.ensures.items, c.magic.ensures)
    (pieces c.args.out.now.items c.args.header.now)
