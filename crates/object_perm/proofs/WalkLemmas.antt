-- Walks along a permutation: where they end, and that they can be walked back.
use Rattle.std.proofs.Common.{◌≡◌, ℕ, zero, suc, ◌+◌, ◌<◌, List, length, get_or, refl, arith}
use Rattle.object_perm.specs.Permutation.{PermutesPlaces}
use Rattle.object_perm.specs.Walk.{along}

pub along-zero : (values : List ℕ) (place : ℕ) → along values 0 place ≡ place
unfolding along
along-zero values place = refl

-- one move more
pub along-more : (values : List ℕ) (moves place : ℕ) →
    along values (suc moves) place ≡ get_or values (along values moves place) 0
unfolding along
along-more values moves place = refl

-- a walk of two parts
pub along-add : (values : List ℕ) (m n place : ℕ) → along values (m + n) place ≡ along values m (along values n place)
along-add values zero n place =
    let e : 0 + n ≡ n = omega arith in
    rw (e, along-zero values (along values n place)) refl
along-add values (suc m) n place =
    let e : suc m + n ≡ suc (m + n) = omega arith in
    rw (e, along-more values (m + n) place, along-more values m (along values n place), along-add values m n place) refl

-- a walk whose number of moves is a sum
pub along-split : (values : List ℕ) (m n k place : ℕ) → m + n ≡ k →
    along values k place ≡ along values m (along values n place)
along-split values m n k place e = rw (← e) (along-add values m n place)

-- one move more, as a number in code says it
pub along-next : (values : List ℕ) (moves place here : ℕ) → along values moves place ≡ here →
    along values (moves + 1) place ≡ get_or values here 0
along-next values moves place here e =
    let one : moves + 1 ≡ suc moves = omega arith in
    rw (one, along-more values moves place, e) refl

-- a walk stays within the list
pub along_within : (values : List ℕ) (moves place : ℕ) → PermutesPlaces values → place < length values →
    along values moves place < length values
along_within values zero place permutes within = rw (along-zero values place) within
along_within values (suc moves) place permutes within =
    rw (along-more values moves place) (permutes.within (along values moves place)
    (along_within values moves place permutes within))

-- equally long walks that end at one place began at one place
pub along_apart : (values : List ℕ) (moves x y : ℕ) → PermutesPlaces values → x < length values → y < length values →
    along values moves x ≡ along values moves y → x ≡ y
along_apart values zero x y permutes x_within y_within same =
    let x_is = along-zero values x in let y_is = along-zero values y in cc
along_apart values (suc moves) x y permutes x_within y_within same =
    let x_is = along-more values moves x in
    let y_is = along-more values moves y in
    let ends : get_or values (along values moves x) 0 ≡ get_or values (along values moves y) 0 = cc in
    along_apart values moves x y permutes x_within y_within
    (permutes.apart (along values moves x) (along values moves y)
    (along_within values moves x permutes x_within) (along_within values moves y permutes y_within) ends)
