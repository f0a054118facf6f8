-- The definition on worked blocks.
use Rattle.std.proofs.Common.{◌≡◌, [], ◌∷◌, refl}
use Rattle.repair_grammar.specs.RePair.{re_pair, rounds, after_round, first_key, is_first_of, key_order, keys_of, pairs_in, pair_count, block_after_pass, replacement_count}

-- a run of zeros: the pass counts 0 0 twice in five, so its last zero stays
run_of_zeros : re_pair 1 ((0 ∷ 0 ∷ 0 ∷ 0 ∷ 0 ∷ []) ∷ [])
    ≡ record { rules = (0, 0) ∷ []; blocks = (1 ∷ 1 ∷ 0 ∷ []) ∷ [] }
unfolding re_pair rounds after_round first_key is_first_of key_order keys_of pairs_in pair_count block_after_pass replacement_count
run_of_zeros = refl

-- two blocks
two_blocks : re_pair 2 ((0 ∷ 1 ∷ 0 ∷ 1 ∷ []) ∷ (0 ∷ 1 ∷ []) ∷ [])
    ≡ record { rules = (0, 1) ∷ []; blocks = (2 ∷ 2 ∷ []) ∷ (2 ∷ []) ∷ [] }
unfolding re_pair rounds after_round first_key is_first_of key_order keys_of pairs_in pair_count block_after_pass replacement_count
two_blocks = refl

-- 0 1 and 1 2 count alike, so the smaller left symbol goes first, and then the new symbol with 2
threes : re_pair 3 ((0 ∷ 1 ∷ 2 ∷ 0 ∷ 1 ∷ 2 ∷ 0 ∷ 1 ∷ 2 ∷ []) ∷ [])
    ≡ record { rules = (0, 1) ∷ (3, 2) ∷ []; blocks = (4 ∷ 4 ∷ 4 ∷ []) ∷ [] }
unfolding re_pair rounds after_round first_key is_first_of key_order keys_of pairs_in pair_count block_after_pass replacement_count
threes = refl
