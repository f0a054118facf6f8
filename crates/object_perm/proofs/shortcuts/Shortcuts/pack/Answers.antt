use Rattle.std.proofs.Common.{◌≡◌, ◌+◌, ◌*◌, ◌≤◌, min, [], ◌∷◌, ◌++◌, length, drop, ap, sym, ◌∙◌, arith, length-drop, length-append}
use Rattle.std.specs.Slice.Iter.{chunks_rest}
use Rattle.object_perm.specs.Marks.{targets_of}
use Rattle.object_perm.proofs.MarksLemmas.{length-targets_of-le}
use Rattle.object_perm.proofs.PackLemmas.{IsGroupOf, rest-more, held-more, each-more, holds-all}
use Rattle.object_perm.proofs.shortcuts.Shortcuts.pack.Goals as goal

pub loop-chunk-preserved : goal.loop-chunk-preserved
loop-chunk-preserved c =
    let before = c.loop-chunk.invariant in
    let steps = c.in-Some.ensures.steps in
    let places = c.args.places.now in
    let chunk = c.in-Some.chunk.now in
    let left = chunks_rest c.loop-chunk.chunk-iterator in
    let rest = chunks_rest c.next.new.self in
    let groups = c.loop-chunk.groups.items in
    let group = c.in_ok-pack_group.field-0 in
    let targets = c.loop-chunk.targets.items in
    let parts : left ≡ chunk ++ rest = steps.1.0 in
    let size : length chunk ≡ min 32 (length left) = steps.1.1 ∙ ap (λ n. min n (length left)) before.size in
    let packed : IsGroupOf group targets chunk = record {
      marks = c.in_ok-pack_group.ensures.marks;
      before =
          c.in_ok-pack_group.ensures.before;
    } in
    let groups_is : c.push.new.self.items ≡ groups ++ group ∷ [] = c.in_ok-push.ensures.items in
    let targets_is : c.pack_group.new.targets.items ≡ targets ++ targets_of chunk = c.in_ok-pack_group.ensures.targets in
    let longer : length c.push.new.self.items ≡ length groups + 1 =
    omega (arith, ap length groups_is, length-append groups (group ∷ [])) in
    let next_size = steps.0 ∙ before.size in
    record {
      can = omega (arith, next_size);
      finite = tt;
      size = next_size;
      rest = rest-more places chunk left rest (length groups) before.rest parts size
          ∙ ap (λ n. drop (32 * n) places) (sym longer);
      few = omega (
        arith,
        before.few,
        ap length parts,
        length-append chunk rest,
        ap length targets_is,
        length-append targets (targets_of chunk),
        length-targets_of-le chunk,
      );
      held = rw (groups_is, targets_is) (held-more places chunk left rest groups group targets before.rest parts size packed before.each before.held);
      each = rw (groups_is, targets_is) (each-more chunk groups group targets packed before.each);
    }

pub returns : goal.returns
returns c =
    let before = c.loop-chunk.invariant in
    let over = ap length before.rest in
    let covers : length c.args.places.now ≤ 32 * length c.loop-chunk.groups.items =
    omega (
      arith,
      over,
      c.in-None.ensures.steps.1.0,
      length-drop (32 * length c.loop-chunk.groups.items) c.args.places.now,
    ) in
    rw (c.new.ensures, c.new-2.ensures) (holds-all c.args.places.now c.loop-chunk.groups.items
    c.loop-chunk.targets.items covers before.held)
