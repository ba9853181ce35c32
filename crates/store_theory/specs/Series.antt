-- Calls made one after another on one file.
-- Assumes nothing.
use Rattle.std.specs.Prelude.{◌≡◌, List, [], ◌∷◌, ℕ}

-- calls of one kind, of which `does` says what a call answers on a file, and the file that it leaves
module _ {Call Answer : Type 0} (does : List ℕ → Call → Answer × List ℕ) where
  -- the file after calls made one after another, from left to right: the first gets the file as it came, each later one the file as
  -- the call before it left it
  unfoldable pub leaves : List ℕ → List Call → List ℕ
  leaves f [] = f
  leaves f (c ∷ l) = leaves (does f c).1 l

  -- what each of a list of calls made one after another is answered
  unfoldable pub replies : List ℕ → List Call → List Answer
  replies f [] = []
  replies f (c ∷ l) = (does f c).0 ∷ replies (does f c).1 l

  -- Functions called one after another from the file f to the file h, by what their contracts say: the call c on f answers r and
  -- leaves g.
  pub data Run : List ℕ → List Call → List Answer → List ℕ → Type 0 where
    done : {f h : List ℕ} → h ≡ f → Run f [] [] h
    call : {f g h : List ℕ} {c : Call} {l : List Call} {r : Answer} {rs : List Answer} → (r, g) ≡ does f c → Run g l rs h
        → Run f (c ∷ l) (r ∷ rs) h
