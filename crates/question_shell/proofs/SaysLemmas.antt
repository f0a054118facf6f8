-- Saying one text after another, while some is held back.
use Rattle.std.proofs.Common.{◌≡◌, ℕ, List, [], ◌++◌, sym, ap, ◌∙◌, append_assoc, append-nil}
use Rattle.std.proofs.Common.{take, drop, subst, Result, Ok, Err, OnErr}
use Rattle.std.proofs.lemmas.List.{take-append-drop}
use Rattle.host_ports.specs.Histories.{Gains}
use Rattle.question_shell.specs.Says.{Cuts, Puts, Says, Voice, voice}

-- a text said after another
pub Gains-append : (before between now : List ℕ) (first second : List ℕ) →
    Gains before between first → Gains between now second → Gains before now (first ++ second)
Gains-append before between now first second one two =
    two ∙ (ap (λ text. text ++ second) one ∙ append_assoc before first second)

-- nothing said
pub Gains-nothing : (said : List ℕ) → Gains said said []
Gains-nothing said = sym (append-nil said)

-- no text
pub says-nothing : (here : Voice) → Says here here []
says-nothing here = record { sent = []; split = append-nil here.held; said = Gains-nothing here.said }

-- a text after another
pub says-append : (before between now : Voice) (first second : List ℕ) →
    Says before between first → Says between now second → Says before now (first ++ second)
says-append before between now first second one two = record {
  sent = one.sent ++ two.sent;
  split = sym (append_assoc before.held first second)
      ∙ (ap (λ text. text ++ second) one.split
      ∙ (append_assoc one.sent between.held second
      ∙ (ap (λ text. one.sent ++ text) two.split
      ∙ sym (append_assoc one.sent two.sent now.held))));
  said = Gains-append before.said between.said now.said one.sent two.sent one.said two.said;
}

-- a text after another is cut
pub cuts-append : (before between : Voice) (now : List ℕ) (first second : List ℕ) →
    Says before between first → Cuts between now second → Cuts before now (first ++ second)
cuts-append before between now first second one two = record {
  unsaid = two.unsaid;
  says = says-append before between (voice now two.unsaid) first second one two.says;
}

-- what is cut of a text is cut of a longer one
pub cuts-more : (before : Voice) (now : List ℕ) (text more : List ℕ) →
    Cuts before now text → Cuts before now (text ++ more)
cuts-more before now text more cut = record {
  unsaid = cut.unsaid ++ more;
  says = record {
    sent = cut.says.sent;
    split = sym (append_assoc before.held text more)
        ∙ (ap (λ all. all ++ more) cut.says.split ∙ append_assoc cut.says.sent cut.unsaid more);
    said = cut.says.said;
  };
}

-- a front of it is said
pub cuts-front : (said now : List ℕ) (held : List ℕ) (k : ℕ) → Gains said now (take k held) →
    Cuts (voice said held) now []
cuts-front said now held k appended = record {
  unsaid = drop k held;
  says = record {
    sent = take k held;
    split = append-nil held ∙ sym (take-append-drop k held);
    said = appended;
  };
}

-- where nothing was held back and nothing is, the text was said
pub Gains-says : (said now : List ℕ) (text : List ℕ) → Says (voice said []) (voice now []) text →
    Gains said now text
Gains-says said now text says =
    let same : says.sent ≡ text = sym (append-nil says.sent) ∙ sym says.split in
    let P : List ℕ → Type 0 = λ all. Gains said now all in
    subst P same says.said

-- a fact holds of an error where it holds at all
pub on_err_always : {T E P : Type 0} (result : Result T E) → P → OnErr result P
on_err_always (Ok value) fact = tt
on_err_always (Err fault) fact = fact

-- what a call put, in other words and after another text
pub told-after : {T E : Type 0} (before between now : Voice) (first line text : List ℕ) (result : Result T E) →
    first ++ line ≡ text → Says before between first → Puts between now line result → Puts before now text result
told-after before between now first line text (Ok value) whole says told =
    subst (λ (all : List ℕ). Says before now all) whole (says-append before between now first line says told)
told-after before between now first line text (Err fault) whole says told =
    subst (λ (all : List ℕ). Cuts before now.said all) whole (cuts-append before between now.said first line says told)
