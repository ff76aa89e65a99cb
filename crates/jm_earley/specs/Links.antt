-- The rules that the items of a place give for what may follow there.
use Rattle.std.specs.Prelude.{ℕ, ◌==◌, ◌&&◌, ◌||◌, Bool, false, List, [], ◌∷◌, Option, Some, None, length, drop, map, slice_get, unwrap_or, if◌then◌else◌}
use Rattle.std.specs.Option.{option_and_then, option_map_or}
use Rattle.jm_grammar.specs.declared.grammar.GrammarSymbol.{GrammarSymbol}
use Rattle.jm_grammar.specs.declared.grammar.GrammarSymbol.TheVariants.{Letter, Nonterminal}
use Rattle.jm_grammar.specs.declared.grammar.Production.{Production}
use Rattle.jm_grammar.specs.Grammars.{GrammarDefinition}
use Rattle.jm_earley.specs.declared.item.Item.{Item}
use Rattle.jm_earley.specs.declared.rule.Rule.{Rule}
use Rattle.jm_earley.specs.declared.letter_set.LetterSet.{LetterSet}
use Rattle.jm_earley.specs.declared.continuation.Continuation.{Continuation}
use Rattle.jm_earley.specs.declared.continuation.Rest.{Rest}
use Rattle.jm_earley.specs.declared.continuation.Rest.TheVariants.{AnyLength, NotEmpty}
use Rattle.jm_earley.specs.declared.earley_set.EarleySet.{EarleySet}
use Rattle.jm_earley.specs.declared.link.Link.{Link}
use Rattle.jm_earley.specs.Kept.{place_at}
use Rattle.jm_earley.specs.Rules.{only, has, no_rule}
use Rattle.jm_earley.specs.LetterSets.{can_spell, can_go_on}

-- the nonterminal that comes next, if the symbols after it spell a word
abbrev pub link_from : ℕ → LetterSet → List GrammarSymbol → Option Link
link_from left set [] = None
link_from left set (Letter a ∷ back) = None
link_from left set (Nonterminal n ∷ back) =
    if can_spell set back then Some (record { left = left; next = n; goes_on = can_go_on set back }) else None

abbrev pub link_in : Item → LetterSet → Option Production → Option Link
link_in item set None = None
link_in item set (Some p) = link_from p.left set (drop item.dot p.symbols)

-- the nonterminal after the item's dot
abbrev pub link_of : List Production → LetterSet → Item → Option Link
link_of productions set item = link_in item set (slice_get productions item.production)

-- what may follow at an earlier place
abbrev pub future_at : List EarleySet → ℕ → ℕ → Option Continuation
future_at earlier number position =
    option_and_then (λ (p : EarleySet). slice_get p.futures.futures.items number) (place_at earlier position)

-- such a rest may follow the next nonterminal, by what is known where the item began: at an earlier place all, and here
-- what any rest may follow, where one with letters is asked for
abbrev pub is_known : Rest → Link → Option Continuation → Bool
is_known AnyLength l None = false
is_known AnyLength l (Some there) = has there.ends l.left
is_known (NotEmpty ends) l None = l.goes_on && has ends l.left
is_known (NotEmpty ends) l (Some there) = l.goes_on && has there.ends l.left || has there.more l.left

-- where the item began here, such a rest may follow the next nonterminal if one may follow the left side
abbrev pub rest_rule : Rest → Option Link → Option Continuation → Rule
rest_rule rest None there = no_rule
rest_rule rest (Some l) there =
    record { gives = only l.next; any = option_map_or (λ f. 0) there (only l.left); always = is_known rest l there }

-- at the first place nothing follows the start, which is a rest without letters
abbrev pub start_rule : Rest → ℕ → List EarleySet → Rule
start_rule AnyLength start earlier = record { gives = only start; any = 0; always = length earlier == 0 }
start_rule (NotEmpty ends) start earlier = no_rule

abbrev pub rest_rules : GrammarDefinition → Rest → LetterSet → ℕ → List EarleySet → List Item → List Rule
rest_rules g rest set number earlier items =
    start_rule rest g.start earlier ∷ map (λ (item : Item). rest_rule rest (link_of g.productions set item)
    (future_at earlier number item.origin)) items

-- the symbols after the dot and a rest after the left side have letters, or one of the two
abbrev pub keeps_alive_in : Item → LetterSet → Continuation → Option Production → Bool
keeps_alive_in item set there None = false
keeps_alive_in item set there (Some p) =
    can_spell set (drop item.dot p.symbols) &&
    (can_go_on set (drop item.dot p.symbols) && has there.ends p.left || has there.more p.left)

abbrev pub keeps_alive : List Production → LetterSet → ℕ → List EarleySet → Continuation → Item → Bool
keeps_alive productions set number earlier here item =
    keeps_alive_in item set (unwrap_or (future_at earlier number item.origin) here)
    (slice_get productions item.production)
