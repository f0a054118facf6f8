-- Making nodes: what was made stays, the children of a square are tasks, and the squares become fewer.
use Rattle.std.proofs.Common.{◌≡◌, ℕ, suc, ◌+◌, ◌-◌, ◌*◌, ◌^◌, ◌<◌, ◌≤◌, true, List, [], ◌∷◌, ◌++◌, length, map}
use Rattle.std.proofs.Common.{filter, drop, refl, sym, ap, ◌∙◌, arith, All, subst, inl, inr, Some, append_assoc}
use Rattle.std.proofs.Common.{length-append, get_or}
use Rattle.std.specs.Prelude.{slice_get, ℤ}
use Rattle.std.specs.Int.{int_max, int_min}
use Rattle.std.proofs.lemmas.Int.{clamps, ints}
use Rattle.std.specs.List.{range_with_len, sum_by}
use Rattle.std.proofs.lemmas.Option.{slice_get_within, slice_get-get_or, get_or_from_slice_get}
use Rattle.std.proofs.lemmas.List.{length-map, append-nil, drop-append-le}
use Rattle.std.proofs.Math.Seq.{drop-cons}
use Rattle.track_types.specs.Near.{IsBoxWithin, IsWithin}
use Rattle.track_types.specs.Boxes.{joined_box}
use Rattle.box_tree.proofs.RunLemmas.{All-range}
use Rattle.std.proofs.lemmas.Bool.{cases_Bool, cases_lt}
use Rattle.std.proofs.lemmas.Bool.Decides.{nat_tests}
use Rattle.k2_tree.specs.TreeBits.{code_limit}
use Rattle.list_laws.proofs.RangeLemmas.{range-parts}
use Rattle.std.proofs.lemmas.List.Elements.{All-append, All-map, All-weaker, All-nil, All-cons, All-head, All-tail}
use Rattle.std.proofs.lemmas.List.Sums.{sum_by-append, sum_by-cons}
use Rattle.list_laws.proofs.FlatLemmas.{sum_by-map}
use Rattle.list_laws.proofs.SliceLemmas.{slice_get-append_left, slice_get-append_add}
use Rattle.track_types.specs.declared.cell_box.CellBox.{CellBox}
use Rattle.k2_tree.specs.Areas.{IsBoxInside}
use Rattle.track_types.specs.declared.cell.Cell.{Cell}
use Rattle.box_tree.specs.Boxes.{IsFrom}
use Rattle.box_tree.specs.NodeKinds.{link_kind}
use Rattle.box_tree.specs.Levels.{children, digits, square_start, is_held, run, squares_in}
use Rattle.box_tree.specs.Places.{box_at}
use Rattle.box_tree.specs.Held.{Stand, mask_digits}
use Rattle.box_tree.specs.Tree.{levels_below}
use Rattle.box_tree.specs.Building.{BeginsWith, IsMade, IsMadeKind, IsMadeLink, IsMaking}
use Rattle.box_tree.specs.Building.{IsTask, IsTaskAt, child_task, task_levels, task_squares}
use Rattle.box_tree.specs.declared.node_kind.NodeKind.{NodeKind}
use Rattle.box_tree.specs.declared.node_kind.NodeKind.TheVariants.{Bucket, Branch}
use Rattle.box_tree.specs.declared.task.Task.{Task}
use Rattle.box_tree.proofs.BuildingLemmas.{Stand-weaker}
use Rattle.box_tree.proofs.NodeLemmas.{squares_in-own}
use Rattle.box_tree.proofs.SplitLemmas.{longer-within}

-- what stands in a list stands in one that begins with it
stays : {A : Type 0} (xs ys : List A) (i : ℕ) (x : A) → slice_get xs i ≡ Some x → slice_get (xs ++ ys) i ≡ Some x
stays xs ys i x is = slice_get-append_left xs ys i (slice_get_within xs i x is) ∙ is

-- a task that stands among tasks stands among more
pub stands-more : (tasks more : List Task) (below prefix number : ℕ) → IsTaskAt tasks below prefix number
    → IsTaskAt (tasks ++ more) below prefix number
stands-more tasks more below prefix number it = record {
  task = it.task;
  stands = stays tasks more number it.task it.stands;
  same_below = it.same_below;
  same_prefix = it.same_prefix;
}

-- so does what was made of it
kind-more : (codes : List ℕ) (narrow : ℕ) (tasks more : List Task) (task : Task) (kind : NodeKind)
    → IsMadeKind codes narrow tasks task kind → IsMadeKind codes narrow (tasks ++ more) task kind
kind-more codes narrow tasks more task (Bucket low high) is = is
kind-more codes narrow tasks more task (Branch end mask) is = record {
  width = is.width;
  lower = is.lower;
  deep = is.deep;
  levels = is.levels;
  branch = record {
    first = is.branch.first;
    few = is.branch.few;
    told = is.branch.told;
    stand = is.branch.stand;
    each = Stand-weaker (IsTaskAt tasks is.lower) (IsTaskAt (tasks ++ more) is.lower)
        (stands-more tasks more is.lower) is.branch.first
        (children codes (digits (levels_below narrow is.lower)) is.width task.prefix) is.branch.each;
  };
}

-- a node that was made stays so where tasks come after the others
pub made-more : (codes : List ℕ) (boxes : List CellBox) (narrow : ℕ) (tasks more : List Task) (areas : List CellBox)
    (area : CellBox)
    (links : List (ℕ × ℕ)) (link : ℕ × ℕ) (number : ℕ) → IsMade codes boxes narrow tasks areas links number
    → IsMade codes boxes narrow (tasks ++ more) (areas ++ area ∷ []) (links ++ link ∷ []) number
made-more codes boxes narrow tasks more areas area links link number it = record {
  task = it.task;
  area = it.area;
  link = it.link;
  stands = stays tasks more number it.task it.stands;
  is = it.is;
  area_is = stays areas (area ∷ []) number it.area it.area_is;
  link_is = stays links (link ∷ []) number it.link it.link_is;
  covers = it.covers;
  kind = kind-more codes narrow tasks more it.task (link_kind it.link) it.kind;
}

-- children that were put after others stand there
stand-pushed : (codes : List ℕ) (width : ℕ) (task : Task) (front : List Task) (cs : List ℕ)
    → Stand (IsTaskAt (front ++ map (child_task codes width task) cs) (task.below - 1)) (length front) cs
unfolding Stand
stand-pushed codes width task front [] = tt
stand-pushed codes width task front (c ∷ cs) =
    let rest : List Task = map (child_task codes width task) cs in
    let here : Task = child_task codes width task c in
    let none : length front ≡ length front + 0 = omega arith in
    let next : length (front ++ here ∷ []) ≡ length front + 1 = length-append front (here ∷ []) in
    let all : (front ++ here ∷ []) ++ rest ≡ front ++ here ∷ rest = append_assoc front (here ∷ []) rest in (
      record {
        task = here;
        stands = ap (slice_get (front ++ here ∷ rest)) none ∙ slice_get-append_add front (here ∷ rest) 0;
        same_below = refl;
        same_prefix = refl;
      },
      subst (λ (tasks : List Task). Stand (IsTaskAt tasks (task.below - 1)) (length front + 1) cs) all
          (subst (λ k. Stand (IsTaskAt ((front ++ here ∷ []) ++ rest) (task.below - 1)) k cs) next
          (stand-pushed codes width task (front ++ here ∷ []) cs)),
    )

-- the kind that was made of a task, and what came after the others
pub kind-made : (codes : List ℕ) (narrow : ℕ) (task : Task) (kind : NodeKind) (old new : List Task)
    → IsTask codes narrow task
    → IsMadeLink codes narrow task kind old new → IsMadeKind codes narrow new task kind
kind-made codes narrow task (Bucket low high) old new is its = (its.0, its.1, its.2)
kind-made codes narrow task (Branch end mask) old new is its =
    let width : ℕ = its.0 in
    let into = its.4 in
    let deep : task.below ≡ suc (task.below - 1) = omega (arith, its.1) in
    let lower : List ℕ = levels_below narrow (task.below - 1) in
    let level : digits lower ≡ task.level - width = let all = ap digits its.2 in omega (arith, is.level, all) in
    let cs : List ℕ = children codes (task.level - width) width task.prefix in
    let stand : Stand (IsTaskAt new (task.below - 1)) (length old) cs =
    subst (λ (tasks : List Task). Stand (IsTaskAt tasks (task.below - 1)) (length old) cs) (sym into.pushed)
    (stand-pushed codes width task old cs) in
    let long : length old + length (mask_digits width mask) ≡ end =
    omega (
      arith,
      its.3,
      ap length into.pushed,
      length-append old (map (child_task codes width task) cs),
      length-map cs (child_task codes width task),
      ap length into.told,
      length-map (mask_digits width mask) (λ digit. 4 ^ width * task.prefix + digit),
    ) in
    record {
      width = width;
      lower = task.below - 1;
      deep = deep;
      levels = ap (levels_below narrow) (sym deep) ∙ its.2;
      branch = record {
        first = length old;
        few = into.few;
        told = into.told ∙ ap (λ n. children codes n width task.prefix) (sym level);
        stand = long;
        each = subst (λ n. Stand (IsTaskAt new (task.below - 1)) (length old) (children codes n width task.prefix))
            (sym level) stand;
      };
    }

-- a box that was read is near 0
pub box-from : (base : Cell) (boxes : List CellBox) (place : ℕ) (read : CellBox) → place < length boxes
    → read ≡ get_or boxes place read
    → All (IsFrom base) boxes → IsFrom base read
box-from base boxes place read within is from = subst (IsFrom base) (sym is) (from place read within)

-- a box of a list near 0 is near 0
pub box-near : (boxes : List CellBox) (place : ℕ) (read : CellBox) → place < length boxes
    → read ≡ get_or boxes place read
    → All IsBoxWithin boxes → IsBoxWithin read
box-near boxes place read within is near = subst IsBoxWithin (sym is) (near place read within)

-- the least box with two boxes is where they are
pub joined-from : (base : Cell) (area other : CellBox) → IsFrom base area → IsFrom base other → IsFrom base (joined_box area other)
joined-from base area other own first = record {
  left = omega (arith, ints, clamps, own.left, first.left);
  right = omega (arith, ints, clamps, own.right, first.right);
  below = omega (arith, ints, clamps, own.below, first.below);
  above = omega (arith, ints, clamps, own.above, first.above);
}

pub joined-near : (area other : CellBox) → IsBoxWithin area → IsBoxWithin other → IsBoxWithin (joined_box area other)
joined-near area other own first = record {
  x1 = within-min area.x1 other.x1 own.x1 first.x1;
  y1 = within-min area.y1 other.y1 own.y1 first.y1;
  x2 = within-max area.x2 other.x2 own.x2 first.x2;
  y2 = within-max area.y2 other.y2 own.y2 first.y2;
}
  where
    within-min : (a b : ℤ) → IsWithin a → IsWithin b → IsWithin (int_min a b)
    within-min a b one two = record { low = omega (arith, ints, clamps, one.low, two.low); high = omega (arith, ints, clamps, one.high) }

    within-max : (a b : ℤ) → IsWithin a → IsWithin b → IsWithin (int_max a b)
    within-max a b one two = record { low = omega (arith, ints, clamps, one.low); high = omega (arith, ints, clamps, one.high, two.high) }

-- one number more of a range
pub All-range_more : (P : ℕ → Type 0) (a k : ℕ) → a ≤ k → All P (range_with_len a (k - a)) → P k
    → All P (range_with_len a (k + 1 - a))
All-range_more P a k low each last =
    let more : k + 1 - a ≡ k - a + 1 = omega arith in
    let at : a + (k - a) ≡ k = omega arith in
    subst (λ n. All P (range_with_len a n)) (sym more)
    (subst (All P) (sym (range-parts a (k - a) 1))
    (All-append P (range_with_len a (k - a)) (range_with_len (a + (k - a)) 1) each
    (All-cons P (a + (k - a)) [] (subst P (sym at) last) (All-nil P))))

-- the children of a square that hold a place
children-held : (codes : List ℕ) (n level prefix : ℕ)
    → All (λ q. (square_start codes n q < square_start codes n (q + 1)) × (4 ^ level * prefix ≤ q)
    × (q < 4 ^ level * prefix + 4 ^ level)) (children codes n level prefix)
unfolding children is_held
children-held codes n level prefix =
    held (range_with_len (4 ^ level * prefix) (4 ^ level))
    (All-range (λ q. (4 ^ level * prefix ≤ q) × (q < 4 ^ level * prefix + 4 ^ level)) (4 ^ level * prefix)
    (4 ^ level) (λ j low high. (low, high)))
  where
    P : ℕ → Type 0
    P q = (square_start codes n q < square_start codes n (q + 1)) × (4 ^ level * prefix ≤ q)
        × (q < 4 ^ level * prefix + 4 ^ level)

    some : (q : ℕ) → is_held codes n q ≡ true → square_start codes n q < square_start codes n (q + 1)
    some q holds = grind (arith, nat_tests)

    held : (xs : List ℕ) → All (λ q. (4 ^ level * prefix ≤ q) × (q < 4 ^ level * prefix + 4 ^ level)) xs
        → All P (filter (is_held codes n) xs)
    held [] each = All-nil P
    held (x ∷ xs) each =
        let Q : ℕ → Type 0 = λ q. (4 ^ level * prefix ≤ q) × (q < 4 ^ level * prefix + 4 ^ level) in
        let rest = held xs (All-tail Q x xs each) in
        let here = All-head Q x xs each in
        elim (cases_Bool (is_held codes n x)) [
          | inl holds ↦ rw holds (All-cons P x (filter (is_held codes n) xs) (some x holds, here.0, here.1) rest)
          | inr fails ↦ rw fails rest
        ]

-- what is known of a child's task
child-is : (codes : List ℕ) (narrow width : ℕ) (task : Task) (q : ℕ) → IsTask codes narrow task → 1 ≤ task.below
    → levels_below narrow task.below ≡ width ∷ levels_below narrow (task.below - 1)
    → (square_start codes (task.level - width) q < square_start codes (task.level - width) (q + 1))
    × (4 ^ width * task.prefix ≤ q) × (q < 4 ^ width * task.prefix + 4 ^ width)
    → IsTask codes narrow (child_task codes width task q)
child-is codes narrow width task q is some split its =
    let all : width + digits (levels_below narrow (task.below - 1)) ≡ task.level = ap digits (sym split) ∙ is.level in
    let digit : ℕ = q - 4 ^ width * task.prefix in
    let back : q ≡ 4 ^ width * task.prefix + digit = omega (arith, its.1) in
    let within = longer-within task.prefix width task.level digit (omega (arith, all)) (omega (arith, its.1, its.2)) in
    record {
      level = omega (arith, all);
      deep = omega (arith, is.deep);
      small = subst (λ k. (k + 1) * 4 ^ (task.level - width) ≤ code_limit) (sym back) (omega (arith, within, is.small));
      places = record { low_is = refl; high_is = refl };
      some = its.0;
    }

-- tasks that come after the others are tasks
tasks-more : (codes : List ℕ) (narrow : ℕ) (task : Task) (kind : NodeKind) (old new : List Task) → IsTask codes narrow task
    → IsMadeLink codes narrow task kind old new → All (IsTask codes narrow) old → All (IsTask codes narrow) new
tasks-more codes narrow task (Bucket low high) old new is its all = subst (All (IsTask codes narrow)) (sym its.3) all
tasks-more codes narrow task (Branch end mask) old new is its all =
    let width : ℕ = its.0 in
    let cs : List ℕ = children codes (task.level - width) width task.prefix in
    subst (All (IsTask codes narrow)) (sym its.4.pushed)
    (All-append (IsTask codes narrow) old (map (child_task codes width task) cs) all
    (All-map (IsTask codes narrow) (child_task codes width task) cs
    (All-weaker _ (λ q. IsTask codes narrow (child_task codes width task q))
    (λ q. child-is codes narrow width task q is its.1 its.2) cs
    (children-held codes (task.level - width) width task.prefix))))

-- one node more was made
pub making-next : (codes : List ℕ) (boxes : List CellBox) (narrow : ℕ) (first old new : List Task)
    (areas : List CellBox) (links : List (ℕ × ℕ))
    (task : Task) (area : CellBox) (link : ℕ × ℕ) → IsMaking codes boxes narrow first old areas links
    → slice_get old (length links) ≡ Some task → IsTask codes narrow task
    → All (λ place. IsBoxInside (box_at boxes place) area) (run codes task.level task.prefix)
    → IsBoxWithin area → ((base : Cell) → All (IsFrom base) boxes → IsFrom base area)
    → IsMadeLink codes narrow task (link_kind link) old new
    → IsMaking codes boxes narrow first new (areas ++ area ∷ []) (links ++ link ∷ [])
making-next codes boxes narrow first old new areas links task area link is stands its covers near from made =
    let more = begins codes narrow task (link_kind link) old new made in
    record {
      tasks = tasks-more codes narrow task (link_kind link) old new its made is.tasks;
      begin = record {
        rest = is.begin.rest ++ more.rest;
        is = more.is ∙ ap (λ xs. xs ++ more.rest) is.begin.is
            ∙ append_assoc first is.begin.rest more.rest;
      };
      same = omega (arith, is.same, length-append areas (area ∷ []), length-append links (link ∷ []));
      near = All-append IsBoxWithin areas (area ∷ []) is.near (All-cons IsBoxWithin area [] near (All-nil IsBoxWithin));
      from = λ base all. All-append (IsFrom base) areas (area ∷ []) (is.from base all)
          (All-cons (IsFrom base) area [] (from base all) (All-nil (IsFrom base)));
      made = λ number below. elim (cases_lt number (length links)) [
        | inl before ↦
            subst (λ (tasks : List Task). IsMade codes boxes narrow tasks (areas ++ area ∷ [])
            (links ++ link ∷ []) number) (sym more.is)
            (made-more codes boxes narrow old more.rest areas area links link number (is.made number before))
        | inr not ↦
            let here : number ≡ length links = omega (arith, below, length-append links (link ∷ [])) in
            subst (IsMade codes boxes narrow new (areas ++ area ∷ []) (links ++ link ∷ [])) (sym here)
            (record {
              task = task;
              area = area;
              link = link;
              stands = ap (λ (tasks : List Task). slice_get tasks (length links)) more.is
                  ∙ stays old more.rest (length links) task stands;
              is = its;
              area_is = ap (slice_get (areas ++ area ∷ [])) (sym is.same) ∙ last areas area;
              link_is = last links link;
              covers = covers;
              kind = kind-made codes narrow task (link_kind link) old new its made;
            })
      ];
    }
  where
    begins : (codes : List ℕ) (narrow : ℕ) (task : Task) (kind : NodeKind) (old new : List Task)
        → IsMadeLink codes narrow task kind old new
        → BeginsWith old new
    begins codes narrow task (Bucket low high) old new its = record { rest = []; is = its.3 ∙ sym (append-nil old) }
    begins codes narrow task (Branch end mask) old new its = record { rest = _; is = its.4.pushed }

    last : {A : Type 0} (xs : List A) (x : A) → slice_get (xs ++ x ∷ []) (length xs) ≡ Some x
    last xs x = let none : length xs ≡ length xs + 0 = omega arith in ap (slice_get (xs ++ x ∷ [])) none
        ∙ slice_get-append_add xs (x ∷ []) 0

-- squares become fewer
turns-split : (codes : List ℕ) (narrow : ℕ) (task : Task) (kind : NodeKind) (old new : List Task) (k : ℕ)
    → IsTask codes narrow task
    → IsMadeLink codes narrow task kind old new → k + 1 ≤ length old
    → task_squares codes narrow (drop (k + 1) new)
    < task_squares codes narrow (drop (k + 1) old) + squares_in (λ _. true) codes (task_levels narrow task) task.prefix
unfolding squares_in
turns-split codes narrow task (Bucket low high) old new k is its within =
    let own = squares_in-own (λ _. true) codes (task_levels narrow task) task.prefix refl in
    rw its.3 (omega arith)
turns-split codes narrow task (Branch end mask) old new k is its within =
    let width : ℕ = its.0 in
    let lower : List ℕ = levels_below narrow (task.below - 1) in
    let level : digits lower ≡ task.level - width = let all = ap digits its.2 in omega (arith, is.level, all) in
    let cs : List ℕ = children codes (task.level - width) width task.prefix in
    let made : List Task = map (child_task codes width task) cs in
    let left : drop (k + 1) new ≡ drop (k + 1) old ++ made =
    ap (drop (k + 1)) its.4.pushed ∙ drop-append-le (k + 1) old made within in
    let f : Task → ℕ = λ t. squares_in (λ _. true) codes (task_levels narrow t) t.prefix in
    let summed : task_squares codes narrow (drop (k + 1) new) ≡ sum_by f (drop (k + 1) old) + sum_by f made =
    ap (sum_by f) left ∙ sum_by-append f (drop (k + 1) old) made in
    let below : sum_by f made ≡ sum_by (squares_in (λ _. true) codes lower) cs =
    sum_by-map f (child_task codes width task) cs in
    let own : f task ≡ 1 + sum_by (squares_in (λ _. true) codes lower) cs =
    ap (λ ls. squares_in (λ _. true) codes ls task.prefix) its.2
    ∙ ap (λ n. 1 + sum_by (squares_in (λ _. true) codes lower) (children codes n width task.prefix)) level in
    omega (arith, summed, below, own)

-- fewer squares are left after a task
pub turns-next : (codes : List ℕ) (narrow : ℕ) (task : Task) (kind : NodeKind) (old new : List Task) (k : ℕ)
    → IsTask codes narrow task
    → slice_get old k ≡ Some task → IsMadeLink codes narrow task kind old new
    → task_squares codes narrow (drop (k + 1) new) < task_squares codes narrow (drop k old)
turns-next codes narrow task kind old new k is stands its =
    let within = slice_get_within old k task stands in
    let f : Task → ℕ = λ t. squares_in (λ _. true) codes (task_levels narrow t) t.prefix in
    let next : k + 1 ≡ suc k = omega arith in
    let cut : drop k old ≡ task ∷ drop (k + 1) old =
    drop-cons old k task within ∙ ap (λ t. t ∷ drop (suc k) old) (get_or_from_slice_get old k task task stands)
    ∙ ap (λ n. task ∷ drop n old) (sym next) in
    let all : task_squares codes narrow (drop k old) ≡ f task + sum_by f (drop (k + 1) old) =
    ap (sum_by f) cut ∙ sum_by-cons f task (drop (k + 1) old) in
    let fewer = turns-split codes narrow task kind old new k is its (omega (arith, within)) in
    omega (arith, all, fewer)

-- a task that was read
pub read-task : (tasks : List Task) (place : ℕ) (task : Task) → task ≡ get_or tasks place task → place < length tasks
    → slice_get tasks place ≡ Some task
read-task tasks place task is within = slice_get-get_or tasks place task within ∙ ap Some (sym is)

-- what is read from a list of tasks is one
pub is-task : (codes : List ℕ) (narrow : ℕ) (tasks : List Task) (place : ℕ) (task : Task)
    → task ≡ get_or tasks place task
    → place < length tasks → All (IsTask codes narrow) tasks → IsTask codes narrow task
is-task codes narrow tasks place task is within all = subst (IsTask codes narrow) (sym is) (all place task within)

-- the places of a task
pub task-run : (codes : List ℕ) (narrow : ℕ) (task : Task) → IsTask codes narrow task
    → run codes task.level task.prefix ≡ range_with_len task.low (task.high - task.low)
unfolding run
task-run codes narrow task is = rw (is.places.low_is, is.places.high_is) refl
