-- The prefix rule reads a program as its derivation cuts it.
use Rattle.std.specs.Prelude.{Ok, Some, None}
use mathlib.Core.Path.{◌≡◌, refl, sym, ◌∙◌}
use mathlib.Core.Logic.{◌⊎◌, inl, inr}
use mathlib.Core.List.{List, [], ◌∷◌, ◌++◌, append_assoc, append-nil}
use mathlib.Core.Bool.{Bool, true, false, cond, ◌||◌}
use Prim.Native.Nat.{ℕ, zero, suc, ◌+◌, ◌≤◌, ◌<◌}
use native.Mathlib.Omega.{arith}
use borrow.Author.Tests.{ne_eqb}
use lib.Dec.{T, eqb}
use lib.ListN.{length}
use Rattle.text.specs.Runs
use Rattle.text.proofs.Members.{is_in}
use Rattle.vocabulary.specs.Vocabulary.{words, token_class}
use Rattle.vocabulary.proofs.RowLaws.{at_taken}
use Rattle.signs.specs.Signs.{longest_sign, longest_of}
use Rattle.elements.specs.Elements.{stating, element_at, slash_met, word_met, word_kind, sign_kind}
use Rattle.elements.specs.declared.Element.{Element}
use Rattle.elements.specs.declared.Stated.{Stated}
use Rattle.elements.proofs.Bounds.{Placed, found_placed}
use Rattle.elements.proofs.FoundKinds.{found_kind}
use Rattle.elements.proofs.Delimiters.{delimiter_byte, delimiter_which}
use Rattle.elements.proofs.Slashes.{Divide, divide_found, pattern_found}
use Rattle.elements.proofs.StatedAnswers.{as_asked, slash_no_word, word_no_slash, end_always, found_reserved}
use Rattle.elements.proofs.Spellings.{word_spelling}
use Rattle.rule.specs.Trees.{Trees, none, count}
use Rattle.rule.specs.Levels.{Levels, whole_text, trees_of, slash_opens, word_is_name, stated_by, depth, count_so_far}
use Rattle.derivations.specs.Demand3.{RuleTakes, takes_end, takes_element, takes_slash, takes_word}
use Rattle.prefix.specs.Reading.{step, more, Limits, accepted, ending, read_on, reading, unlimited, unlimited_reading}
use Rattle.prefix.proofs.ReadingLaws.{read_end, read_more}
use Rattle.prefix.proofs.StepCases.{step_taken}
use Rattle.prefix.proofs.Sizes.{Grown, taken_grown}
use Rattle.derivations.specs.Cuts.{recorded, is_closer, Cuts, cut_end, cut_element, cut_slash, cut_word}
use Rattle.derivations.specs.Tokens.{class_of, token_of, tokens, tokens_from, pattern, divide, divide_assign, word_name}
use Rattle.derivations.specs.TreeElements.{elements_of}
use Rattle.machine.specs.Machinery.Machine.{State, live, consume, start, Frame, finished, asks_in}
use Rattle.derivations.proofs.MachineSenses.{sense_at, senses_from}
use Rattle.derivations.proofs.ReadSenses.{tree_senses, senses_so_far}
use Rattle.derivations.proofs.SoFar.{elements_so_far, step_elements}
use Rattle.derivations.proofs.InStep.{InStep, start_in_step, ran_live}
use Rattle.agreement.proofs.Agreement.{word_classes}
use Rattle.derivations.proofs.Kept.{Kept, kept, Stepped, stepped, Outermost, outermost, outermost_at_end}
use Rattle.machine.proofs.Ran.{ran, anywhere}

-- what is found where neither a slash nor a reserved word is met is found under all answers; where one is met, its own answer counts
module _ (bytes : List ℕ) (place : ℕ) (e : Element) where
  found_plain : slash_met bytes place ≡ false → word_met bytes place ≡ false → element_at bytes place (stating false false) ≡ Ok (Some e)
      → (given : Stated) → element_at bytes place given ≡ Ok (Some e)
  found_plain s w f given = as_asked bytes place given ∙ rw (s, w) f

  found_slash : (answer : Bool) → slash_met bytes place ≡ true → element_at bytes place (stating answer false) ≡ Ok (Some e)
      → (given : Stated) → given.pattern ≡ answer → element_at bytes place given ≡ Ok (Some e)
  found_slash answer m f given same = as_asked bytes place given ∙ rw (m, slash_no_word bytes place m, same) f

  found_word : (answer : Bool) → word_met bytes place ≡ true → element_at bytes place (stating false answer) ≡ Ok (Some e)
      → (given : Stated) → given.name ≡ answer → element_at bytes place given ≡ Ok (Some e)
  found_word answer m f given same = as_asked bytes place given ∙ rw (m, word_no_slash bytes place m, same) f

-- a slash that a derivation takes as a regular expression, or as a sign, is one for the machine
module _ (bytes : List ℕ) (place : ℕ) (e : Element) (met : slash_met bytes place ≡ true) where
  opened_class : element_at bytes place (stating true false) ≡ Ok (Some e) → class_of e ≡ pattern
  unfolding class_of
  opened_class f = rw (pattern_found bytes place false met e f)

  divided_class : element_at bytes place (stating false false) ≡ Ok (Some e) → T (eqb (class_of e) divide || eqb (class_of e) divide_assign)
  unfolding class_of longest_sign longest_of Runs.same
  divided_class f =
      let d : Divide e = divide_found bytes place false met e f in
      go d.which d.kind
    where
      go : (e.which ≡ 47) ⊎ (e.which ≡ 48) → e.kind ≡ sign_kind → T (eqb (class_of e) divide || eqb (class_of e) divide_assign)
      go (inl w) k = rw (k, w) tt
      go (inr w) k = rw (k, w) tt

  -- so that the prefix rule answers as the derivation does
  answered : (answer : Bool) → element_at bytes place (stating answer false) ≡ Ok (Some e) → {limits : Limits} {levels : Levels} {is_open : Bool} {after : State}
      → Kept limits levels e is_open after → slash_opens levels ≡ answer
  answered true f k = k.pattern_opens (opened_class f)
  answered false f k = k.divide_divides (divided_class f)

-- and a reserved word that it takes as a name, or as a word, is one
module _ (bytes : List ℕ) (place : ℕ) (e : Element) (met : word_met bytes place ≡ true) where
  name-class : element_at bytes place (stating false true) ≡ Ok (Some e) → class_of e ≡ word_name
  unfolding class_of
  name-class f =
      let r = (found_reserved bytes place (stating false true) e f).reserved met in
      rw (r.0, ne_eqb e.which 0 r.1)

  word-class : element_at bytes place (stating false false) ≡ Ok (Some e) → T (is_in word_classes (class_of e))
  unfolding class_of
  word-class f =
      let k : e.kind ≡ word_kind = ((found_reserved bytes place (stating false false) e f).reserved met).0 in
      rw k (at_taken (λ number row. is_in word_classes (token_class row)) words tt e.which (word_spelling bytes place (stating false false) e f k).taken)

  named : (answer : Bool) → element_at bytes place (stating false answer) ≡ Ok (Some e) → {limits : Limits} {levels : Levels} {is_open : Bool} {after : State}
      → Kept limits levels e is_open after → word_is_name levels ≡ answer
  named true f k = k.name_named (name-class f)
  named false f k = k.word_kept (word-class f)

-- the machine has no group open: the elements so far are those of the whole text's level
whole : {levels : Levels} → Outermost levels → elements_of (trees_of levels) ≡ elements_so_far levels
whole outermost = refl

at_end : {levels : Levels} → Outermost levels → ending levels ≡ accepted (trees_of levels)
at_end outermost = refl

whole_senses : {levels : Levels} → Outermost levels → tree_senses (trees_of levels) ≡ senses_so_far levels
unfolding senses_so_far
whole_senses outermost = refl

-- the trees of a reading from levels on, with the elements that follow, and the senses that the machine gives their tokens
record Reads (bytes : List ℕ) (fuel : ℕ) (levels : Levels) (place : ℕ) (state : State) (n : ℕ) (es : List Element) : Type 0 where
  trees : Trees
  reads : read_on bytes (unlimited bytes) fuel levels place ≡ accepted trees
  same : elements_of trees ≡ elements_so_far levels ++ es
  senses : tree_senses trees ≡ senses_so_far levels ++ senses_from state (tokens_from n es)

module _ (bytes : List ℕ) where
  -- one element, which the derivation found
  module _ (fuel place n : ℕ) (state : State) (levels : Levels) (e : Element) (es : List Element)
      (found : element_at bytes place (stated_by levels) ≡ Ok (Some e))
      (k : Kept (unlimited bytes) levels e (asks_in state) (consume state (token_of n (recorded e))))
      (few : count_so_far levels ≤ place) (shallow : depth levels ≤ place) where
    -- the machine behind it, and what is read behind it
    abbrev next : State
    next = consume state (token_of n (recorded e))

    abbrev Rest : ℕ → Levels → Type 0
    Rest less after = Reads bytes less after e.end next (cond (is_closer (recorded e)) n (n + 1)) es

    -- with the element before that
    with_element : (less : ℕ) (g : Stepped (unlimited bytes) levels e (asks_in state) next) → Rest less g.next → Reads bytes (suc less) levels place state n (recorded e ∷ es)
    unfolding tokens_from class_of
    with_element less g r = record {
      trees = r.trees;
      reads = read_more bytes (unlimited bytes) less levels place e found g.next g.steps ∙ r.reads;
      same = r.same
          ∙ rw (step_elements (unlimited bytes) levels e (found_kind bytes place (stated_by levels) e found) (delimiter_byte bytes place (stated_by levels) e found) (delimiter_which bytes place (stated_by levels) e found) g.next g.steps)
          (append_assoc (elements_so_far levels) (recorded e ∷ []) es);
      senses = r.senses
          ∙ rw g.senses
          (append_assoc (senses_so_far levels) (sense_at (asks_in state) next (class_of e) e.first) (senses_from next (tokens_from (cond (is_closer (recorded e)) n (n + 1)) es)));
    }

    -- what follows it goes on from the levels that it makes
    some : length bytes < place + fuel → place ≤ length bytes
        → ((after : Levels) → InStep next after → count_so_far after ≤ e.end → depth after ≤ e.end
        → (less : ℕ) → length bytes < e.end + less → e.end ≤ length bytes → Rest less after)
        → Reads bytes fuel levels place state n (recorded e ∷ es)
    some enough h rest = go fuel enough
      where
        go : (fuel : ℕ) → length bytes < place + fuel → Reads bytes fuel levels place state n (recorded e ∷ es)
        go zero enough = absurd (omega arith)
        go (suc fuel) enough =
            let p : Placed bytes place e = found_placed bytes place (stated_by levels) e found in
            let g = stepped k (omega arith) (omega arith) in
            let grown : Grown (unlimited bytes) levels g.next = taken_grown e (step_taken (unlimited bytes) e levels g.next g.steps) in
            with_element fuel g (rest g.next g.follows (omega arith) (omega arith) fuel (omega arith) p.within)

  -- nothing is left
  last : (fuel place n : ℕ) (state : State) (levels : Levels) → Outermost levels → element_at bytes place (stating false false) ≡ Ok None
      → Reads bytes fuel levels place state n []
  unfolding read_on tokens_from
  last fuel place n state levels i none_left =
      record {
        trees = trees_of levels;
        reads = go fuel;
        same = whole i ∙ sym (append-nil (elements_so_far levels));
        senses = whole_senses i ∙ sym (append-nil (senses_so_far levels));
      }
    where
      go : (fuel : ℕ) → read_on bytes (unlimited bytes) fuel levels place ≡ accepted (trees_of levels)
      go zero = at_end i
      go (suc fuel) = read_end bytes (unlimited bytes) fuel levels place (end_always bytes place (stating false false) (stated_by levels) none_left) ∙ at_end i

  -- the machine follows what is left, and ends where a program may
  abbrev Followed : State → ℕ → List Element → Type 0
  Followed state n es = (f : Frame) × (ran anywhere state (tokens_from n es) ≡ live finished f [])

  -- what is kept by an element that the machine follows
  followed : (n : ℕ) (state : State) (levels : Levels) (e : Element) (es : List Element) → InStep state levels → Followed state n (recorded e ∷ es)
      → Kept (unlimited bytes) levels e (asks_in state) (consume state (token_of n (recorded e)))
  unfolding tokens_from
  followed n state levels e es i r =
      kept (unlimited bytes) levels e n i (ran_live (consume state (token_of n (recorded e))) (tokens_from (cond (is_closer (recorded e)) n (n + 1)) es) (rw r.1 tt))

  reads_on : {place : ℕ} {choice : List Bool} {es : List Element} → Cuts bytes place choice es → (n : ℕ) (state : State) (levels : Levels)
      → InStep state levels → Followed state n es → count_so_far levels ≤ place → depth levels ≤ place
      → (fuel : ℕ) → length bytes < place + fuel → place ≤ length bytes → Reads bytes fuel levels place state n es
  unfolding tokens_from
  reads_on (cut_end {place} end) n state levels i r few shallow fuel enough h =
      last fuel place n state levels (outermost_at_end levels anywhere i (rw r.1 tt)) end
  reads_on (cut_element {place} {e} {es = es} slash word found rest) n state levels i r few shallow fuel enough h =
      some fuel place n state levels e es (found_plain bytes place e slash word found (stated_by levels)) (followed n state levels e es i r) few shallow enough h
      (λ after j few shallow less enough h. reads_on rest (cond (is_closer (recorded e)) n (n + 1)) (consume state (token_of n (recorded e))) after j r few shallow less enough h)
  reads_on (cut_slash {place} {e} {answer} {es = es} met found rest) n state levels i r few shallow fuel enough h =
      let k = followed n state levels e es i r in
      some fuel place n state levels e es (found_slash bytes place e answer met found (stated_by levels) (answered bytes place e met answer found k)) k few shallow enough h
      (λ after j few shallow less enough h. reads_on rest (cond (is_closer (recorded e)) n (n + 1)) (consume state (token_of n (recorded e))) after j r few shallow less enough h)
  reads_on (cut_word {place} {e} {answer} {es = es} met found rest) n state levels i r few shallow fuel enough h =
      let k = followed n state levels e es i r in
      some fuel place n state levels e es (found_word bytes place e answer met found (stated_by levels) (named bytes place e met answer found k)) k few shallow enough h
      (λ after j few shallow less enough h. reads_on rest (cond (is_closer (recorded e)) n (n + 1)) (consume state (token_of n (recorded e))) after j r few shallow less enough h)

  -- the levels behind an element that the machine follows, and that few records and groups stand before what is behind it
  record Behind (place : ℕ) (levels : Levels) (e : Element) (after : State) : Type 0 where
    next : Levels
    steps : step (unlimited bytes) levels e ≡ more next
    follows : InStep after next
    few : count_so_far next ≤ e.end
    shallow : depth next ≤ e.end
    within : e.end ≤ length bytes

  behind : {place : ℕ} {levels : Levels} {e : Element} {is_open : Bool} {after : State} → element_at bytes place (stated_by levels) ≡ Ok (Some e) → Kept (unlimited bytes) levels e is_open after
      → count_so_far levels ≤ place → depth levels ≤ place → Behind place levels e after
  behind {place} {levels} {e} found k few shallow =
      let p : Placed bytes place e = found_placed bytes place (stated_by levels) e found in
      let g = stepped k (omega arith) (omega arith) in
      let grown : Grown (unlimited bytes) levels g.next = taken_grown e (step_taken (unlimited bytes) e levels g.next g.steps) in
      record { next = g.next; steps = g.steps; follows = g.follows; few = omega arith; shallow = omega arith; within = p.within }

  -- along it the rule answers as the choice does
  takes_on : {place : ℕ} {choice : List Bool} {es : List Element} (cut : Cuts bytes place choice es) (n : ℕ) (state : State) (levels : Levels)
      → InStep state levels → Followed state n es → count_so_far levels ≤ place → depth levels ≤ place → RuleTakes bytes levels place choice es
  unfolding tokens_from
  takes_on (cut_end end) n state levels i r few shallow = takes_end end
  takes_on (cut_element {place} {e} {es = es} slash word found rest) n state levels i r few shallow =
      let b = behind (found_plain bytes place e slash word found (stated_by levels)) (followed n state levels e es i r) few shallow in
      takes_element slash word found b.steps (takes_on rest (cond (is_closer (recorded e)) n (n + 1)) (consume state (token_of n (recorded e))) b.next b.follows r b.few b.shallow)
  takes_on (cut_slash {place} {e} {answer} {es = es} met found rest) n state levels i r few shallow =
      let k = followed n state levels e es i r in
      let same = answered bytes place e met answer found k in
      let b = behind (found_slash bytes place e answer met found (stated_by levels) same) k few shallow in
      takes_slash met same found b.steps (takes_on rest (cond (is_closer (recorded e)) n (n + 1)) (consume state (token_of n (recorded e))) b.next b.follows r b.few b.shallow)
  takes_on (cut_word {place} {e} {answer} {es = es} met found rest) n state levels i r few shallow =
      let k = followed n state levels e es i r in
      let same = named bytes place e met answer found k in
      let b = behind (found_word bytes place e answer met found (stated_by levels) same) k few shallow in
      takes_word met same found b.steps (takes_on rest (cond (is_closer (recorded e)) n (n + 1)) (consume state (token_of n (recorded e))) b.next b.follows r b.few b.shallow)

  pub program_takes : {choice : List Bool} {es : List Element} (cut : Cuts bytes 0 choice es) → Followed start 0 es → RuleTakes bytes (whole_text none) 0 choice es
  unfolding count
  program_takes cut r = takes_on cut 0 start (whole_text none) start_in_step r (omega arith) (omega arith)

  -- a text that is cut into the elements of a program is read into trees with these elements
  pub program_read : {choice : List Bool} {es : List Element} → Cuts bytes 0 choice es → Followed start 0 es
      → (trees : Trees) × (unlimited_reading bytes ≡ accepted trees) × (elements_of trees ≡ es) × (tree_senses trees ≡ senses_from start (tokens es))
  unfolding reading elements_of count senses_so_far tree_senses
  program_read cut r =
      let a = reads_on cut 0 start (whole_text none) start_in_step r (omega arith) (omega arith) (suc (length bytes)) (omega arith) (omega arith) in
      (a.trees, a.reads, a.same, a.senses)
