-- Trees, and levels of two readings, that are the same but for positions: the prefix rule and the limits see no difference.
use mathlib.Core.Path.{◌≡◌, refl, ap}
use mathlib.Core.Bool.{Bool}
use mathlib.Core.List.{List, ◌∷◌, ◌++◌}
use Prim.Native.Nat.{ℕ, ◌+◌, ◌-◌}
use Rattle.elements.specs.declared.Element.{Element}
use Rattle.rule.specs.Trees.{Trees, leaf, group, count}
use Rattle.rule.specs.Rule.{element_class, backwards, settled_kind}
use Rattle.rule.specs.Levels.{Levels, whole_text, inside, kind_of, trees_of, stated_by, brace_opens, settled_in, depth, count_so_far, on_top}
use Rattle.elements.specs.Lexemes.{bytes_of, SameElement}
use Rattle.spacing.specs.Respaced.{space, separator, add_element, add_closer, add_trees}
use Rattle.respacer.specs.Alike.{Alike, alike_none, alike_leaf, alike_group}

-- levels that are the same but for positions
pub data AlikeLevels (s t : List ℕ) : Levels → Levels → Type 0 where
  alike_text : {trees others : Trees} → Alike s t trees others → AlikeLevels s t (whole_text trees) (whole_text others)
  alike_inside : {around outer : Levels} {kind first start : ℕ} {newline : Bool} {trees others : Trees}
      → AlikeLevels s t around outer
      → bytes_of s first (first + 1) ≡ bytes_of t start (start + 1)
      → Alike s t trees others
      → AlikeLevels s t (inside around kind first newline trees) (inside outer kind start newline others)

module _ {s t : List ℕ} where
  same_class : {e f : Element} → SameElement s t e f → element_class e ≡ element_class f
  unfolding element_class
  same_class same = rw (same.kind, same.which)

  pub alike_count : {trees others : Trees} → Alike s t trees others → count trees ≡ count others
  unfolding count
  alike_count alike_none = refl
  alike_count (alike_leaf before same) = rw (alike_count before)
  alike_count (alike_group before opener within closer) = rw (alike_count before, alike_count within)

  alike_backwards : {trees others : Trees} → Alike s t trees others → backwards trees ≡ backwards others
  unfolding backwards
  alike_backwards alike_none = refl
  alike_backwards (alike_leaf before same) = rw (same_class same, same.newline, alike_backwards before)
  alike_backwards (alike_group before opener within closer) = rw (alike_backwards before)

  alike_kind : {levels others : Levels} → AlikeLevels s t levels others → kind_of levels ≡ kind_of others
  alike_kind (alike_text trees) = refl
  alike_kind (alike_inside around opener trees) = refl

  alike_trees : {levels others : Levels} → AlikeLevels s t levels others → backwards (trees_of levels) ≡ backwards (trees_of others)
  alike_trees (alike_text trees) = alike_backwards trees
  alike_trees (alike_inside around opener trees) = alike_backwards trees

  pub alike_stated : {levels others : Levels} → AlikeLevels s t levels others → stated_by levels ≡ stated_by others
  alike_stated alike = rw (alike_kind alike, alike_trees alike)

  pub alike_brace : {levels others : Levels} → AlikeLevels s t levels others → (newline : Bool) → brace_opens levels newline ≡ brace_opens others newline
  alike_brace alike newline = rw (alike_kind alike, alike_trees alike)

  -- an element has the same settled kind at other places
  pub alike_settled : {levels others : Levels} → AlikeLevels s t levels others → (e : Element) (start stop : ℕ)
      → (settled_in levels e).kind ≡ (settled_in others (record { kind = e.kind; which = e.which; first = start; end = stop; newline = e.newline })).kind
  unfolding settled_kind
  alike_settled alike e start stop = rw (alike_kind alike, alike_trees alike)

  pub alike_depth : {levels others : Levels} → AlikeLevels s t levels others → depth levels ≡ depth others
  alike_depth (alike_text trees) = refl
  alike_depth (alike_inside around opener trees) = rw (alike_depth around)

  pub alike_so_far : {levels others : Levels} → AlikeLevels s t levels others → count_so_far levels ≡ count_so_far others
  alike_so_far (alike_text trees) = alike_count trees
  alike_so_far (alike_inside around opener trees) = rw (alike_so_far around, alike_count trees)

  -- a tree more on both
  pub alike_leaf_more : {levels others : Levels} {e f : Element} → AlikeLevels s t levels others → SameElement s t e f
      → AlikeLevels s t (on_top (λ before. leaf before e) levels) (on_top (λ before. leaf before f) others)
  alike_leaf_more (alike_text trees) same = alike_text (alike_leaf trees same)
  alike_leaf_more (alike_inside around opener trees) same = alike_inside around opener (alike_leaf trees same)

  pub alike_group_more : (kind first start end stop : ℕ) (newline : Bool) {levels others : Levels} {within inner : Trees} → AlikeLevels s t levels others
      → bytes_of s first (first + 1) ≡ bytes_of t start (start + 1) → Alike s t within inner → bytes_of s (end - 1) end ≡ bytes_of t (stop - 1) stop
      → AlikeLevels s t (on_top (λ before. group before kind first end newline within) levels) (on_top (λ before. group before kind start stop newline inner) others)
  alike_group_more kind first start end stop newline (alike_text trees) opener within closer = alike_text (alike_group trees opener within closer)
  alike_group_more kind first start end stop newline (alike_inside around tag trees) opener within closer = alike_inside around tag (alike_group trees opener within closer)

-- they are written the same
module _ (s t written : List ℕ) (first end start stop : ℕ) (same : bytes_of s first end ≡ bytes_of t start stop) where
  element_same : (newline : Bool) → add_element s written first end newline ≡ add_element t written start stop newline
  unfolding add_element
  element_same newline = ap (λ bytes. written ++ (separator written newline ++ bytes)) same

  closer_same : add_closer s written first end ≡ add_closer t written start stop
  unfolding add_closer
  closer_same = ap (λ bytes. written ++ (space ∷ bytes)) same

module _ {s t : List ℕ} where
  pub alike_written : (written : List ℕ) {trees others : Trees} → Alike s t trees others → add_trees s written trees ≡ add_trees t written others
  unfolding add_trees
  alike_written written alike_none = refl
  alike_written written (alike_leaf {before = before} {earlier = earlier} {e = e} {other = f} rest same) =
      rw (alike_written written rest, same.newline) (element_same s t (add_trees t written earlier) e.first e.end f.first f.end same.bytes f.newline)
  alike_written written (alike_group {before = before} {earlier = earlier} {within = within} {inner = inner} {first = first} {start = start} {end = end} {stop = stop} {newline = newline} rest opener inners closer) =
      let opened : add_element s (add_trees s written before) first (first + 1) newline ≡ add_element t (add_trees t written earlier) start (start + 1) newline =
      rw (alike_written written rest) (element_same s t (add_trees t written earlier) first (first + 1) start (start + 1) opener newline) in
      rw (opened, alike_written (add_element t (add_trees t written earlier) start (start + 1) newline) inners)
      (closer_same s t (add_trees t (add_element t (add_trees t written earlier) start (start + 1) newline) inner) (end - 1) end (stop - 1) stop closer)
