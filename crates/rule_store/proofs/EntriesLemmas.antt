-- Packed entries with the same numbers.
use Rattle.std.proofs.Common.{◌≡◌, ℕ, ◌^◌, ◌≤◌, ℤ, ◌≤ℤ◌, refl, ap, sym, subst}
use Rattle.std.proofs.Props.{props}
use Rattle.track_types.specs.declared.limit.TheConstants.{MAX_PERIOD}
use Rattle.rule_store.specs.declared.packed_entry.PackedEntry.{PackedEntry}

-- the numbers of an entry
record Numbers : Type 0 where
  duration : ℕ
  depth : ℕ
  dx : ℤ
  dy : ℤ
  x1 : ℤ
  y1 : ℤ
  x2 : ℤ
  y2 : ℤ

-- what is known of them
abbrev AreFit : Numbers → Type 0
AreFit n = (n.duration ≤ MAX_PERIOD) × (n.depth ≤ 2 ^ 26) × (n.x1 ≤ℤ n.x2 → n.y1 ≤ℤ n.y2)

-- the entry with these numbers
abbrev entry_with_numbers : (n : Numbers) → AreFit n → PackedEntry
entry_with_numbers n fit = record {
  duration = n.duration;
  depth = n.depth;
  dx = n.dx;
  dy = n.dy;
  hull = record { x1 = n.x1; y1 = n.y1; x2 = n.x2; y2 = n.y2; high = fit.2 };
  short = fit.0;
  shallow = fit.1;
}

-- the numbers of an entry
abbrev numbers_of : PackedEntry → Numbers
numbers_of entry = record {
  duration = entry.duration;
  depth = entry.depth;
  dx = entry.dx;
  dy = entry.dy;
  x1 = entry.hull.x1;
  y1 = entry.hull.y1;
  x2 = entry.hull.x2;
  y2 = entry.hull.y2;
}

-- what is known of the numbers of an entry
abbrev fit_of : (entry : PackedEntry) → AreFit (numbers_of entry)
fit_of entry = (entry.short, entry.shallow, entry.hull.high)

by_numbers : (m n : Numbers) → m ≡ n → (f : AreFit m) (g : AreFit n) → entry_with_numbers m f ≡ entry_with_numbers n g
by_numbers m n same f =
    subst (λ (k : Numbers). (g : AreFit k) → entry_with_numbers m f ≡ entry_with_numbers k g) same
    (λ g. (let fit : IsProp (AreFit m) = hlevel props in ap (entry_with_numbers m) (fit f g)))

-- entries with the same numbers are the same
pub same_packed : (a b : PackedEntry) → a.duration ≡ b.duration → a.depth ≡ b.depth → a.dx ≡ b.dx → a.dy ≡ b.dy →
    a.hull.x1 ≡ b.hull.x1 → a.hull.y1 ≡ b.hull.y1 → a.hull.x2 ≡ b.hull.x2 → a.hull.y2 ≡ b.hull.y2 → a ≡ b
same_packed a b duration depth dx dy x1 y1 x2 y2 =
    let same : numbers_of a ≡ numbers_of b =
    rw (sym duration, sym depth, sym dx, sym dy, sym x1, sym y1, sym x2, sym y2) refl in
    by_numbers (numbers_of a) (numbers_of b) same (fit_of a) (fit_of b)
