-- What is there after several pieces were appended, one after the other.
use Rattle.std.proofs.Common.{◌≡◌, ℕ, List, ◌++◌, Result, append_assoc}
use Rattle.std.specs.Prelude.{OnOk}
use Rattle.std.proofs.lemmas.Result.{on_ok_weaker}

pub five : {T E : Type 0} (r : Result T E) (a b c d f g x y z w v : List ℕ) → b ≡ a ++ x → c ≡ b ++ y → d ≡ c ++ z
    → f ≡ d ++ w → OnOk r (g ≡ f ++ v)
    → OnOk r (g ≡ a ++ (x ++ (y ++ (z ++ (w ++ v)))))
five r a b c d f g x y z w v e1 e2 e3 e4 = on_ok_weaker r (λ e. rw (e, e4, e3, e2, e1) (simp append_assoc))

pub four : {T E : Type 0} (r : Result T E) (a b c d f x y z w : List ℕ) → b ≡ a ++ x → c ≡ b ++ y → d ≡ c ++ z
    → OnOk r (f ≡ d ++ w) → OnOk r (f ≡ a ++ (x ++ (y ++ (z ++ w))))
four r a b c d f x y z w e1 e2 e3 = on_ok_weaker r (λ e. rw (e, e3, e2, e1) (simp append_assoc))
