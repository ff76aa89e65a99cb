-- What the bytes of a file say.
use Rattle.std.proofs.Common.{◌≡◌, ℕ, ◌+◌, ◌<◌, ◌≤◌, List, [], ◌∷◌, length, sym, ap, subst, ◌∙◌, arith}
use Rattle.std.specs.Prelude.{All, ◌^◌, map, is_some}
use Rattle.jm_model.specs.declared.fault.SpecFault.{SpecFault}
use Rattle.jm_text.specs.declared.token.Token.{Token}
use Rattle.jm_text.specs.Spans.{LieInOrder}
use Rattle.jm_text.specs.Tokens.{AreTokensOf}
use Rattle.jm_reading.specs.Tokens.{name_of}
use Rattle.jm_spec.specs.declared.tree.SpecTree.{SpecTree}
use Rattle.jm_spec.specs.Trees.{properties_of, IsTreeOfTokens}
use Rattle.jm_machine.specs.Meanings.{RuleDefinition, handler_count}
use Rattle.jm_machine.specs.RuleSets.{CompiledRules}
use Rattle.jm_events.specs.Events.{EventDefinitions}
use Rattle.jm_machine.specs.Compiling.{IsCompiledFrom, IsFaultyTree}
use Rattle.jm_inputs.specs.declared.specification.SpecHeader.{SpecHeader}
use Rattle.jm_inputs.specs.declared.specification.NamedSpec.{NamedSpec}
use Rattle.jm_inputs.specs.Specifications.{IsTreeOfBytes, IsSpecFault, in_tree, logics_of, grammar_line_of, all_handlers, BlocksSay, most_bytes}
use Rattle.jm_inputs.specs.Reading.{IsRead}

module _ (bytes : List ℕ) (tokens : List Token) (small : length bytes ≤ most_bytes) (cut : AreTokensOf bytes tokens) where
  told_of : (tree : SpecTree) → IsTreeOfTokens bytes tokens tree → IsTreeOfBytes bytes tokens tree
  told_of tree told = record { small = small; cut = cut; told = told }

  pub tree_fault_of : (tree : SpecTree) (fault : SpecFault) → IsTreeOfTokens bytes tokens tree → IsFaultyTree bytes tokens tree fault → IsSpecFault bytes fault
  tree_fault_of tree fault told h = in_tree tokens tree fault (told_of tree told) h

  -- what is kept of a specification
  pub read_of : (tree : SpecTree) (r : NamedSpec) (rules : CompiledRules) (header : SpecHeader) → IsTreeOfTokens bytes tokens tree → IsCompiledFrom bytes tokens tree rules.definition
      → All (λ mask. mask < 2 ^ length tree.table.parameters) rules.definition.masks → handler_count rules.definition.properties ≤ 16
      → header.logics.items ≡ logics_of (properties_of tree) → header.grammar_line ≡ grammar_line_of (properties_of tree) → header.full_binding ≡ tree.full_binding → header.suffix ≡ is_some tree.suffix
      → BlocksSay bytes tokens tree.table.parameters (all_handlers (properties_of tree)) header.texts.items
      → r.compiled.rules ≡ rules → r.compiled.header ≡ header → r.name.now ≡ name_of bytes tree.name → r.table ≡ tree.table → IsRead bytes r
  read_of tree r rules header told compiled fit few logics line full anywhere say is kept named table =
      let masks : rules.definition.masks ≡ map (λ e. e.mask) tree.table.events = ap (λ (x : RuleDefinition). x.masks) compiled.rules in
      record {
        said = record {
          tokens = tokens;
          tree = tree;
          told = told_of tree told;
          rules = subst (λ (x : CompiledRules). IsCompiledFrom bytes tokens tree x.definition) (sym is) compiled;
          name = named;
          table = table;
          logics = ap (λ (t : SpecHeader). t.logics.items) kept ∙ logics;
          grammar_line = ap (λ (t : SpecHeader). t.grammar_line) kept ∙ line;
          full_binding = ap (λ (t : SpecHeader). t.full_binding) kept ∙ full;
          suffix = ap (λ (t : SpecHeader). t.suffix) kept ∙ anywhere;
          texts = subst (λ (t : SpecHeader). BlocksSay bytes tokens tree.table.parameters (all_handlers (properties_of tree)) t.texts.items) (sym kept) say;
        };
        kept = record {
          masks = ap (λ (x : CompiledRules). x.definition.masks) is ∙ masks ∙ ap (λ (t : EventDefinitions). map (λ e. e.mask) t.events) (sym table);
          fit = subst (λ (t : EventDefinitions). All (λ mask. mask < 2 ^ length t.parameters) r.compiled.rules.definition.masks) (sym table) (subst (λ (x : CompiledRules). All (λ mask. mask < 2 ^ length tree.table.parameters) x.definition.masks) (sym is) fit);
          few = subst (λ (x : CompiledRules). handler_count x.definition.properties ≤ 16) (sym is) few;
        };
      }

-- ---- the tokens of a file
pub tokens_few : (from to : ℕ) (tokens : List Token) → LieInOrder from tokens to → from + length tokens ≤ to
tokens_few from to [] h = omega (arith, h)
tokens_few from to (t ∷ ts) h = omega (arith, h.0, h.1, tokens_few t.end to ts h.2)
