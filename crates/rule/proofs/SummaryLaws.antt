-- The summary answers what the rule answers.
use mathlib.Core.Path.{◌≡◌, refl, ap, sym, ◌∙◌}
use mathlib.Core.Bool.{Bool, true, false, not, cond, ◌||◌}
use mathlib.Core.List.{List, [], ◌∷◌}
use lib.Dec.{T}
use Rattle.text.proofs.Range.{alike, alike→eq}
use Rattle.rule.specs.Rule.{Class, name, value, operator, question, answer, colon, dot, comma, semicolon, other, return_word, function_word, head_word, parens, brackets, object, block, Before, tree, is, ends_with, object_after, opens_object, plainly, opens_pattern, names_word}
use Rattle.vocabulary.proofs.ClassLaws.{is-class}
use Rattle.rule.specs.Machinery.Summary.{Summary, brace_by, slash_by, name_by, add_name, add_parens, add_block, add, summary}
use Rattle.rule.proofs.Finite.{both_bools, at_bool, all_classes, at_class, all_summaries, at_summary}

-- an equation between two Booleans that holds after every tree
always : (f g : Bool → Summary → Class → Bool → Bool)
    → T (all_summaries λ s. all_classes λ c. both_bools λ e. both_bools λ l. alike (f e s c l) (g e s c l))
    → (e : Bool) (s : Summary) (c : Class) (l : Bool) → f e s c l ≡ g e s c l
always f g t e s c l =
    alike→eq (f e s c l) (g e s c l)
    (at_bool (λ l. alike (f e s c l) (g e s c l))
    (at_bool (λ e. both_bools λ l. alike (f e s c l) (g e s c l))
    (at_class (λ c. both_bools λ e. both_bools λ l. alike (f e s c l) (g e s c l))
    (at_summary (λ s. all_classes λ c. both_bools λ e. both_bools λ l. alike (f e s c l) (g e s c l)) t s)
    c)
    e)
    l)

-- what a brace opens
pub brace_right : (e : Bool) (ts : List Before) (newline : Bool) → brace_by e (summary e ts) newline ≡ opens_object e ts newline
unfolding summary opens_object
brace_right e [] newline = refl
brace_right e (tree c l ∷ ts) true = always (λ e s c l. brace_by e (add e s c l) true) (λ e s c l. object_after e c true) tt e (summary e ts) c l
brace_right e (tree c l ∷ ts) false = always (λ e s c l. brace_by e (add e s c l) false) (λ e s c l. object_after e c false) tt e (summary e ts) c l

-- what a slash does behind `( )`
after_parens : (e : Bool) (ts : List Before) → slash_by (add_parens (summary e ts)) ≡ ends_with head_word ts
unfolding summary
after_parens e [] = refl
after_parens e (tree c l ∷ ts) = always (λ e s c l. slash_by (add_parens (add e s c l))) (λ e s c l. is head_word c) tt e (summary e ts) c l

-- where the last tree is no block, nothing is excepted
not_excepted : (e l : Bool) (c : Class) → is block c ≡ false → (ts : List Before) → plainly (tree c l ∷ ts) ≡ opens_pattern e (tree c l ∷ ts)
unfolding opens_pattern
not_excepted e l c q [] = refl
not_excepted e l c q (three ∷ []) = refl
not_excepted e l c q (tree three i ∷ tree two j ∷ []) = rw q
not_excepted e l c q (tree three i ∷ tree two j ∷ tree one k ∷ ts) = rw q

-- and behind a block: the trees before it are looked at one by one, as long as they could be those of a function
module _ (e l : Bool) where
  after_name : (lp ln : Bool) (ts : List Before)
      → slash_by (add_block (add_parens (add_name (summary e ts)))) ≡ opens_pattern e (tree block l ∷ tree parens lp ∷ tree name ln ∷ ts)
  unfolding summary opens_pattern
  after_name lp ln [] = refl
  after_name lp ln (tree c f ∷ ts) =
      always (λ e s c f. slash_by (add_block (add_parens (add_name (add e s c f))))) (λ e s c f. cond (is function_word c) (not (brace_by e s f)) true) tt e (summary e ts) c f
      ∙ ap (λ (b : Bool). cond (is function_word c) (not b) true) (brace_right e ts f)

  after_block_parens : (lp : Bool) (ts : List Before) → slash_by (add_block (add_parens (summary e ts))) ≡ opens_pattern e (tree block l ∷ tree parens lp ∷ ts)
  unfolding summary opens_pattern
  after_block_parens lp [] = refl
  after_block_parens lp (tree c ln ∷ ts) =
      always (λ e s c f. slash_by (add_block (add_parens (add e s c f))))
      (λ e s c f. cond (is name c) (slash_by (add_block (add_parens (add_name s)))) (cond (is function_word c) (not (brace_by e s f)) true)) tt e (summary e ts) c ln
      ∙ rw (after_name lp ln ts, brace_right e ts ln) (go (is name c) refl ts)
    where
      go : (b : Bool) → is name c ≡ b → (ts : List Before)
          → cond b (opens_pattern e (tree block l ∷ tree parens lp ∷ tree name ln ∷ ts)) (cond (is function_word c) (not (opens_object e ts ln)) true)
          ≡ opens_pattern e (tree block l ∷ tree parens lp ∷ tree c ln ∷ ts)
      go true q ts = ap (λ (c : Class). opens_pattern e (tree block l ∷ tree parens lp ∷ tree c ln ∷ ts)) (sym (is-class name c (rw q tt)))
      go false q [] = refl
      go false q (tree one k ∷ ts) = rw q

  after_block : (ts : List Before) → slash_by (add_block (summary e ts)) ≡ opens_pattern e (tree block l ∷ ts)
  unfolding summary opens_pattern
  after_block [] = refl
  after_block (tree c lp ∷ ts) =
      always (λ e s c f. slash_by (add_block (add e s c f))) (λ e s c f. cond (is parens c) (slash_by (add_block (add_parens s))) true) tt e (summary e ts) c lp
      ∙ ap (λ (b : Bool). cond (is parens c) b true) (after_block_parens lp ts) ∙ go (is parens c) refl ts
    where
      go : (b : Bool) → is parens c ≡ b → (ts : List Before)
          → cond b (opens_pattern e (tree block l ∷ tree parens lp ∷ ts)) true ≡ opens_pattern e (tree block l ∷ tree c lp ∷ ts)
      go true q [] = refl
      go true q (tree two j ∷ []) = rw q
      go true q (tree two j ∷ tree one k ∷ ts) = rw q
      go false q [] = refl
      go false q (tree two j ∷ []) = rw q
      go false q (tree two j ∷ tree one k ∷ ts) = rw q

-- what a slash does
pub slash_right : (e : Bool) (ts : List Before) → slash_by (summary e ts) ≡ opens_pattern e ts
unfolding summary opens_pattern
slash_right e [] = refl
slash_right e (tree name l ∷ ts) =
    alike→eq (slash_by (add_name (summary e ts))) false (at_summary (λ s. alike (slash_by (add_name s)) false) tt (summary e ts)) ∙ not_excepted e l name refl ts
slash_right e (tree value l ∷ ts) = not_excepted e l value refl ts
slash_right e (tree operator l ∷ ts) = not_excepted e l operator refl ts
slash_right e (tree question l ∷ ts) = not_excepted e l question refl ts
slash_right e (tree answer l ∷ ts) = not_excepted e l answer refl ts
slash_right e (tree colon l ∷ ts) = not_excepted e l colon refl ts
slash_right e (tree dot l ∷ ts) = not_excepted e l dot refl ts
slash_right e (tree comma l ∷ ts) = not_excepted e l comma refl ts
slash_right e (tree semicolon l ∷ ts) = not_excepted e l semicolon refl ts
slash_right e (tree other l ∷ ts) = not_excepted e l other refl ts
slash_right e (tree return_word l ∷ ts) = not_excepted e l return_word refl ts
slash_right e (tree function_word l ∷ ts) = not_excepted e l function_word refl ts
slash_right e (tree head_word l ∷ ts) = not_excepted e l head_word refl ts
slash_right e (tree parens l ∷ ts) = after_parens e ts ∙ not_excepted e l parens refl ts
slash_right e (tree brackets l ∷ ts) = not_excepted e l brackets refl ts
slash_right e (tree object l ∷ ts) = not_excepted e l object refl ts
slash_right e (tree block l ∷ ts) = after_block e l ts

-- whether a reserved word is a name
pub name_right : (e inObject : Bool) (ts : List Before) → name_by inObject (summary e ts) ≡ names_word inObject ts
unfolding summary names_word
name_right e true [] = refl
name_right e false [] = refl
name_right e true (tree c l ∷ ts) = always (λ e s c l. name_by true (add e s c l)) (λ e s c l. is dot c || is comma c) tt e (summary e ts) c l
name_right e false (tree c l ∷ ts) = always (λ e s c l. name_by false (add e s c l)) (λ e s c l. is dot c || false) tt e (summary e ts) c l
