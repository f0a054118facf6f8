-- One turn while two blocks are gone through.
use Rattle.std.specs.Prelude.{◌≡◌, ℕ, ◌+◌, ◌<◌, ◌≤◌, ℤ, Bool, Option, Some, None}
use Rattle.track_types.specs.declared.stop.Stop.{Stop}
use Rattle.track_types.specs.Meeting.{meeting_at}
use Rattle.log_cursor.specs.Needs.{RulesWithin}
use Rattle.encounter.specs.Window.{meeting_among}
use Rattle.encounter.specs.Party.{PartyView, remaining}
use Rattle.encounter.specs.Span.{close_count, close_rule}
use Rattle.encounter.specs.declared.pairing.Turn.{Turn}
use Rattle.encounter.specs.declared.pairing.Turn.TheVariants as turn

-- the first meeting of what remains of two blocks
abbrev pub meeting_ahead : ℤ → ℤ → ℕ → PartyView → PartyView → Option (Stop × Stop)
meeting_ahead from to reach left right =
    meeting_among from to reach (remaining left).stops (remaining right).stops

-- how much going through what remains reads at most
abbrev pub reads_ahead : ℤ → ℤ → ℕ → PartyView → PartyView → ℕ
reads_ahead from to reach left right =
    (left.unread + right.unread) + close_count from to reach (remaining left) (remaining right)

-- a rule is close to a node of the other block, in what remains of two blocks of the same rules
abbrev pub rule_ahead : ℤ → ℤ → ℕ → PartyView → PartyView → ℕ → Bool
rule_ahead from to reach left right = close_rule left.rules from to reach (remaining left) (remaining right)

-- two blocks, and the reads so far
pub record Parties : Type 0 where
  pub left : PartyView
  pub right : PartyView
  pub steps : ℕ

-- two blocks, after so many reads
abbrev pub parties : PartyView → PartyView → ℕ → Parties
parties left right steps = record { left = left; right = right; steps = steps }

module _ (from to : ℤ) (reach : ℕ) (old new : Parties) where
  -- the same first meeting is ahead, for reads from the budget, and of no more rules
  pub record GoesOn : Type 0 where
    pub same : meeting_ahead from to reach old.left old.right ≡ meeting_ahead from to reach new.left new.right
    pub reads : new.steps + reads_ahead from to reach new.left new.right
        ≤ old.steps + reads_ahead from to reach old.left old.right
    pub within : RulesWithin (rule_ahead from to reach new.left new.right) (rule_ahead from to reach old.left old.right)
    pub fewer : new.left.size + new.right.size < old.left.size + old.right.size

  -- this is the first meeting
  pub record Finds (found : Option (Stop × Stop)) : Type 0 where
    pub is : meeting_ahead from to reach old.left old.right ≡ found
    pub reads : new.steps ≤ old.steps + reads_ahead from to reach old.left old.right

  -- what a turn came to
  abbrev pub IsTurned : Turn → Type 0
  IsTurned turn.GoesOn = GoesOn
  IsTurned turn.Ends = Finds None
  IsTurned (turn.Meets meeting) =
      (pair : Stop × Stop) × (meeting ≡ meeting_at pair) × Finds (Some pair)

-- What turns that have found nothing have done: the same first meeting is ahead, for reads from their budget.
pub record IsMeeting (found : Option (Stop × Stop)) (budget : ℕ) (from to : ℤ) (reach : ℕ) (left right : PartyView)
    (steps : ℕ) : Type 0 where
  pub same : found ≡ meeting_ahead from to reach left right
  pub reads : steps + reads_ahead from to reach left right ≤ budget
