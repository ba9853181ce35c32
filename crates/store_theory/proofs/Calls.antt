-- Demand 3 and request 13 over lists of calls, from those over lists of stores.
-- Assumes nothing.
use mathlib.Core.Path.{◌≡◌, refl, sym, ap, ap₂, ◌∙◌}
use mathlib.Core.Logic.{◌⊎◌, inl, inr}
use mathlib.Core.List.Memᴰ
use mathlib.Core.List.{List, [], ◌∷◌, map, Memᴰ}
use Prim.Native.Nat.{ℕ}
use lib.ListN.{length}
use Rattle.store_theory.specs.Series.{leaves, replies}
use Rattle.store_theory.specs.Stores.{System, Laws, All, alone, stores, file_after}
use Rattle.store_theory.specs.Calls.{CallSystem, CallLaws, call_outcome, file_after_calls, told, told_alone, items, Demand3Calls, Request13Calls}
use Rattle.store_theory.proofs.Claims.{order-free, last_stands, answers-alone, opening-after, length-after_all}
use Rattle.store_theory.proofs.Series.{leaves-append}

module _ {Store Answer Opened Value : Type 0} (S : System Store Answer Opened Value) (L : Laws S) {Call Whole : Type 0} (C : CallSystem S Call Whole) (K : CallLaws S C) where
  -- calls on a file g that opens as f does: each makes the stores that it makes of f, and is told what it is told alone on f
  record Made (f g : List ℕ) (l : List Call) : Type 0 where
    bytes : file_after_calls S C g l ≡ file_after S g (items S C f l)
    answered : told S C g l ≡ map (told_alone S C f) l

  made : (f g : List ℕ) (l : List Call) → All C.Fit l → S.opening g ≡ S.opening f → length g ≡ length f → Made f g l
  unfolding leaves replies call_outcome items
  made f g [] ok v n = record { bytes = refl; answered = refl }
  made f g (c ∷ l) ok v n =
      let okc = ok c (Memᴰ.head refl) in
      let fit = K.fit g c okc in
      let e = K.makes-by-opening g f c okc v n in
      let r = made f (file_after S g (C.makes g c)) l (λ t m. ok t (Memᴰ.tail m)) (opening-after S L g (C.makes g c) fit ∙ v) (length-after_all S L g (C.makes g c) fit ∙ n) in
      record {
        bytes =
            r.bytes
            ∙ ap (λ (x : List Store). file_after S (file_after S g x) (items S C f l)) e
            ∙ sym (leaves-append (stores S) g (C.makes f c) (items S C f l));
        answered =
            ap₂ ◌∷◌
            (λ i. record {
              whole = K.whole-by-opening g f c okc v n i;
              slots = (answers-alone S L f g (C.makes g c) fit v n ∙ ap (λ (x : List Store). map (alone S f) x) e) i;
            })
            r.answered;
      }

  fit_items : (f : List ℕ) (l : List Call) → All C.Fit l → All S.Fit (items S C f l)
  unfolding items
  fit_items f [] ok s m = absurd (Memᴰ.not-nil m)
  fit_items f (c ∷ l) ok s m = step (fit_items f l (λ t q. ok t (Memᴰ.tail q)) s) (Memᴰ.append_cases (C.makes f c) m)
    where
      step : (Memᴰ s (items S C f l) → S.Fit s) → Memᴰ s (C.makes f c) ⊎ Memᴰ s (items S C f l) → S.Fit s
      step rec (inl q) = K.fit f c (ok c (Memᴰ.head refl)) s q
      step rec (inr q) = rec q

  -- demand 3 over calls
  pub calls_free : Demand3Calls S C
  calls_free f l ok apart =
      let d = order-free S L f (items S C f l) (fit_items f l ok) apart in
      record {
        stores = d;
        same = λ m okm o. (made f f m okm refl refl).bytes ∙ d.same (items S C f m) o;
        answered = λ m okm. (made f f m okm refl refl).answered;
      }

  -- request 13 over calls
  pub calls_last : Request13Calls S C
  calls_last f l m ok okm o e =
      let d = last_stands S L f (items S C f l) (items S C f m) (fit_items f l ok) o e in
      let r = made f f l ok refl refl in
      let r' = made f f m okm refl refl in
      record {
        stores = d;
        same = r.bytes ∙ d.same ∙ sym r'.bytes;
        made = r.bytes;
        answered = r.answered;
        answered' = r'.answered;
      }
