-- The numbers that stand for settings and endings on the lent stack, and back.
use Prim.Native.Nat.{ℕ}
use mathlib.Core.Path.{◌≡◌, refl, ◌∙◌, ap}
use mathlib.Core.Bool.{Bool, true, false, cond}
use borrow.Author.Tests.{ne_eqb}
use lib.Dec.{eqb}
use Rattle.controls.specs.Machinery.Numbers.{is_lone, setting_number, ending_number, setting_numbered, ending_numbered}
use Rattle.controls.specs.declared.Setting as codes
use Rattle.controls.specs.declared.Setting.TheVariants as sits
use Rattle.controls.specs.declared.Ending as endings
use Rattle.controls.specs.declared.Ending.TheVariants as by

-- what has a number is what the number stands for
setting_back : (setting : codes.Setting) → setting_numbered (setting_number setting) ≡ setting
unfolding setting_numbered
setting_back sits.Body = refl
setting_back sits.Block = refl
setting_back sits.Clause = refl
setting_back sits.IfNest = refl
setting_back sits.ElseNest = refl
setting_back sits.DoNest = refl

pub setting_told : {number : ℕ} {setting : codes.Setting} → setting ≡ setting_numbered number → (of : codes.Setting) → number ≡ setting_number of → setting ≡ of
setting_told is of e = is ∙ ap setting_numbered e ∙ setting_back of

ending_back : (ending : endings.Ending) → ending_numbered (ending_number ending) ≡ ending
unfolding ending_numbered
ending_back by.Statement = refl
ending_back by.Return = refl
ending_back by.Variable = refl
ending_back by.FirstVariable = refl
ending_back by.LaterVariable = refl
ending_back by.LoneStart = refl
ending_back by.Start = refl
ending_back by.Test = refl
ending_back by.Case = refl
ending_back by.LastCase = refl
ending_back by.Step = refl
ending_back by.Object = refl
ending_back by.Paren = refl
ending_back by.Bracket = refl
ending_back by.Colon = refl
ending_back by.Argument = refl
ending_back by.Element = refl
ending_back by.Property = refl

pub ending_told : {number : ℕ} {ending : endings.Ending} → ending ≡ ending_numbered number → (of : endings.Ending) → number ≡ ending_number of → ending ≡ of
ending_told is of e = is ∙ ap ending_numbered e ∙ ending_back of

-- the start of a `for`'s head is alone by one number
data Plain : endings.Ending → Type 0 where
  plain_one : {ending : endings.Ending} → is_lone ending ≡ false → Plain ending

plain_is : {ending : endings.Ending} → Plain ending → is_lone ending ≡ false
plain_is (plain_one e) = e

either : (b : Bool) {x y : endings.Ending} → Plain x → Plain y → Plain (cond b x y)
either true u v = u
either false u v = v

plain_number : (number : ℕ) → (number ≡ 5 → ⊥) → Plain (ending_numbered number)
unfolding ending_numbered
plain_number number other =
    either (eqb number 0) (plain_one refl)
    (either (eqb number 1) (plain_one refl)
    (either (eqb number 2) (plain_one refl)
    (either (eqb number 3) (plain_one refl)
    (either (eqb number 4) (plain_one refl)
    (rw (ne_eqb number 5 other)
    (either (eqb number 6) (plain_one refl)
    (either (eqb number 7) (plain_one refl)
    (either (eqb number 8) (plain_one refl)
    (either (eqb number 9) (plain_one refl)
    (either (eqb number 10) (plain_one refl)
    (either (eqb number 11) (plain_one refl)
    (either (eqb number 12) (plain_one refl)
    (either (eqb number 13) (plain_one refl)
    (either (eqb number 14) (plain_one refl)
    (either (eqb number 15) (plain_one refl)
    (either (eqb number 16) (plain_one refl)
    (plain_one refl)))))))))))))))))

pub numbered_plain : (number : ℕ) → (number ≡ 5 → ⊥) → is_lone (ending_numbered number) ≡ false
numbered_plain number other = plain_is (plain_number number other)
