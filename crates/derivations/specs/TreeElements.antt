-- The elements of trees in text order, closers included: a group is its opener, its inside and its closer.
use Rattle.std.specs.Prelude.{ℕ, ◌+◌, ◌-◌, Bool, false, cond, ◌&&◌, List, [], ◌∷◌, ◌++◌, eqb, leb}
use Rattle.elements.specs.Elements.{sign_kind, delimiter_kind, paren_opener, paren_closer, brace_opener, brace_closer, bracket_opener, bracket_closer}
use Rattle.elements.specs.declared.Element.{Element}
use Rattle.rule.specs.Trees.{Trees, none, leaf, group, paren_kind, bracket_kind, before_kind, answer_kind}

-- the opener and the closer of a group; a closer has no newline flag
abbrev pub opener_of : ℕ → ℕ → Bool → Element
opener_of kind first newline =
    record {
      kind = delimiter_kind;
      which = cond (eqb kind paren_kind) paren_opener (cond (eqb kind bracket_kind) bracket_opener brace_opener);
      first = first;
      end = first + 1;
      newline = newline;
    }

abbrev pub closer_of : ℕ → ℕ → Element
closer_of kind end =
    record {
      kind = delimiter_kind;
      which = cond (eqb kind paren_kind) paren_closer (cond (eqb kind bracket_kind) bracket_closer brace_closer);
      first = end - 1;
      end = end;
      newline = false;
    }

-- kinds 11 to 13, which the prefix rule settles, are those of signs; and an element without what the rule settles of it
abbrev pub unsettled_kind : ℕ → ℕ
unsettled_kind kind = cond (leb before_kind kind && leb kind answer_kind) sign_kind kind

abbrev pub unsettled : Element → Element
unsettled e = record { kind = unsettled_kind e.kind; which = e.which; first = e.first; end = e.end; newline = e.newline }

unfoldable pub elements_of : Trees → List Element
elements_of none = []
elements_of (leaf before e) = elements_of before ++ (unsettled e ∷ [])
elements_of (group before kind first end newline within) =
    elements_of before ++ (opener_of kind first newline ∷ (elements_of within ++ (closer_of kind end ∷ [])))
