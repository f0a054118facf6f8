-- What follows the header in a file that holds an outline, read list by list.
use Rattle.std.proofs.Common.{◌≡◌, ℕ, ◌%◌, ◌/◌, nat_lt, Bool, List, [], Result, Ok, length, take, refl, ◌∙◌, inl, inr}
use Rattle.std.specs.Prelude.{⊤}
use Rattle.std.proofs.lemmas.Bool.{cases_Bool}
use Rattle.packed_bits.specs.Bits.{ones_of}
use Rattle.track_types.specs.declared.flaw.Flaw.{Flaw}
use Rattle.track_types.specs.declared.format_fault.FormatFault.{FormatFault}
use Rattle.track_types.specs.declared.format_fault.FormatFault.TheVariants as fault
use Rattle.index_format.specs.declared.header.Header.{Header}
use Rattle.index_format.specs.declared.outline.Outline.{Outline}
use Rattle.index_format.specs.Answers.{IsFormatFault}
use Rattle.index_format.specs.Spelling.{bits_in}
use Rattle.index_format.specs.Fields.{◌>>=◌, items_at}
use Rattle.index_format.specs.OutlineLists.{object_in, value_in}
use Rattle.index_format.specs.OutlineRules.{rules_in}
use Rattle.index_format.specs.OutlineBlocks.{Told, blocks_in}
use Rattle.index_format.specs.BlockSteps.{nothing_told}
use Rattle.index_format.specs.OutlineFile.{ended_bits, frame_rules, outline_after}

-- whether all bits are read does not hang on what was read
ended_bits-value : {A : Type 0} (bits : List Bool) (value : A) → ended_bits bits value ≡ (ended_bits {A = ⊤} bits tt >>= (λ (done : ⊤). Ok value))
ended_bits-value bits value = elim (cases_Bool (nat_lt 0 (ones_of (take (length bits % 8) bits)))) [
  | inl padded ↦ rw padded refl
  | inr clean ↦ elim (cases_Bool (nat_lt 0 (length bits / 8))) [
    | inl more ↦ rw (clean, more) refl
    | inr none ↦ rw (clean, none) refl
  ]
]

module _ (header : Header) (bytes : List ℕ) {objects values : List ℕ} {rules : List (ℕ × ℕ)} {r1 r2 r3 : List Bool}
    (one : items_at object_in header.objects [] (bits_in bytes) ≡ Ok (objects, r1))
    (two : items_at (value_in header.frame.height) header.alphabet [] r1 ≡ Ok (values, r2))
    (three : rules_in (frame_rules header.frame values []) header.rules r2 ≡ Ok (rules, r3)) where
  -- the outline of these lists and of what is told of blocks
  abbrev pub outline_with : Told → Outline
  outline_with told = record {
    frame = header.frame;
    objects = objects;
    alphabet = values;
    rules = rules;
    blocks = told.blocks;
    symbols = told.symbols;
  }

  -- the blocks of the objects, over these rules
  abbrev pub blocks_told : Result (Told × List Bool) Flaw
  blocks_told = blocks_in header.objects header.frame (frame_rules header.frame values rules) 0 nothing_told r3

  after-lists : outline_after header bytes ≡ (blocks_told >>= (λ told. ended_bits told.1 (outline_with told.0)))
  unfolding outline_after
  after-lists = rw (one, two, three) refl

  -- blocks that cannot be read
  pub after-blocks : (why : FormatFault) → IsFormatFault blocks_told why → IsFormatFault (outline_after header bytes) why
  after-blocks fault.Memory read = tt
  after-blocks (fault.Flaw flaw) read = after-lists ∙ rw read refl

  module _ (told : Told) (left : List Bool) (read : blocks_told ≡ Ok (told, left)) where
    after-all : outline_after header bytes ≡ (ended_bits {A = ⊤} left tt >>= (λ (done : ⊤). Ok (outline_with told)))
    after-all = after-lists ∙ rw read (ended_bits-value left (outline_with told))

    -- bits or bytes after the last block
    pub after-end : (why : FormatFault) → IsFormatFault (ended_bits {A = ⊤} left tt) why → IsFormatFault (outline_after header bytes) why
    after-end fault.Memory ends = tt
    after-end (fault.Flaw flaw) ends = after-all ∙ rw ends refl

    -- all is read
    pub after-done : ended_bits {A = ⊤} left tt ≡ Ok tt → outline_after header bytes ≡ Ok (outline_with told)
    after-done ends = after-all ∙ rw ends refl
