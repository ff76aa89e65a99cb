use Rattle.std.proofs.Common.{[], ◌∷◌, ◌++◌, sym, ap, ◌∙◌}
use Rattle.std.proofs.lemmas.List.{map-append}
use Rattle.jm_inputs.specs.declared.specification.CompiledSpec.{CompiledSpec}
use Rattle.jm_top.proofs.RunLemmas.{watches_push}
use Rattle.jm_top.proofs.run.dispatchers.Goals as goal

pub loop-compiled-preserved : goal.loop-compiled-preserved
loop-compiled-preserved c = record {
  titled = c.in_ok-push-2.ensures.items ∙ ap (λ v. v ++ c.in-Some.compiled.header ∷ []) c.loop-compiled.invariant.titled ∙ sym (map-append (λ (l : CompiledSpec). l.header) c.loop-compiled.yielded (c.in-Some.compiled ∷ []));
  watched = watches_push (λ r. r.watch) (λ r. r.seats.items) c.args.objects c.args.seats c.loop-compiled.yielded c.in-Some.compiled c.loop-compiled.watches.items _ c.in_ok-watch.watch c.loop-compiled.invariant.watched c.in_ok-watch.ensures c.in_ok-push.ensures.items;
}
