-- Worlds that admit the same edits.
use Rattle.std.specs.Prelude.{List, All}
use Rattle.std.proofs.lemmas.List.Elements.{All-weaker}
use Rattle.px_planex.specs.Turns.{Recorded}
use Rattle.px_turns.specs.Told.{AdmitSame, AdmitsAll}

pub admit-same : {E : Type 0} (admits : E → Type 0) → AdmitSame admits admits
admit-same admits = record { same = λ edit. (λ is. is, λ is. is) }

pub admit-both : {E : Type 0} (old mid new : E → Type 0) → AdmitSame old mid → AdmitSame mid new → AdmitSame old new
admit-both old mid new first second = record {
  same = λ edit. (λ is. (first.same edit).0 ((second.same edit).0 is), λ is. (second.same edit).1 ((first.same edit).1 is));
}

pub admitted-later : {E : Type 0} (old new : E → Type 0) (edits : List E) → AdmitSame old new → All old edits → All new edits
admitted-later old new edits same all = All-weaker old new (λ edit is. (same.same edit).1 is) edits all

pub all-later : {E : Type 0} (old new : E → Type 0) (recorded : List (Recorded E)) → AdmitSame old new → AdmitsAll old recorded
    → AdmitsAll new recorded
all-later {E} old new recorded same all =
    All-weaker (λ (one : Recorded E). All old one.edits) (λ (one : Recorded E). All new one.edits)
    (λ one is. admitted-later old new one.edits same is) recorded all
