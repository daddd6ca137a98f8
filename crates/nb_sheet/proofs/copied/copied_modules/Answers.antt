use Rattle.std.proofs.Common.{◌≡◌, ◌<◌, ◌+◌, ◌-◌, ◌∙◌, sym, ap, subst, length, List, ℕ, arith}
use Rattle.std.specs.Prelude.{slice_get}
use Rattle.nb_sheet.specs.Derive.{AreModules, walk, copied_of, copied_modules}
use Rattle.nb_sheet.proofs.Walk.{modules_one, walk_more, walk_past}
use Rattle.nb_sheet.proofs.copied.copied_modules.Goals as goal
use Rattle.nb_sheet.proofs.copied.copied_modules.Goals.{in-Some, in_default}

pub loop-place-init : goal.loop-place-init
loop-place-init c =
    let sheet = c.args.sheet.now.sheet in
    let copied = copied_of c.args.within c.args.specifiers.now sheet.rows in
    let all : length sheet.modules - 0 ≡ length sheet.modules = omega arith in
    record {
      value =
          ap (λ (n : ℕ). walk sheet.modules copied n 0 c.one-list.result) all
          ∙ ap (walk sheet.modules copied (length sheet.modules) 0) c.one-list.ensures;
      kept = subst (AreModules (length sheet.modules)) (sym c.one-list.ensures) (modules_one (length sheet.modules) c.args.within c.requires);
    }

pub loop-place-preserved : goal.loop-place-preserved
loop-place-preserved c =
    let sheet = c.args.sheet.now.sheet in
    let n = length sheet.modules in
    let copied = copied_of c.args.within c.args.specifiers.now sheet.rows in
    let place = c.loop-place.place in
    let list = c.loop-place.list in
    let end = copied_modules sheet.modules sheet.rows c.args.within c.args.specifiers.now in
    let inside : place < n = omega (arith, c.loop-place-test.true, c.modules-place-end.ensures.value) in
    let at : c.number_at.result ≡ slice_get list place = c.number_at.ensures ∙ ap (λ (l : List ℕ). slice_get l place) c.as_slice.ensures.value in
    elim c.match-number_at.branch [
      | in-Some w ↦ record {
        value =
            ap (walk sheet.modules copied (n - (place + 1)) (place + 1)) w.list-is
            ∙ walk_more sheet.modules copied n place w.in-Some.k list w.go_through.new.list end inside (sym w.in-Some.is ∙ at) w.go_through.ensures.value c.loop-place.invariant.value;
        kept = subst (AreModules n) (sym w.list-is) w.go_through.ensures.kept;
      }
      | in_default w ↦ record {
        value = ap (walk sheet.modules copied (n - (place + 1)) (place + 1)) w.list-is ∙ walk_past sheet.modules copied n place list end (sym w.in_default.is ∙ at) c.loop-place.invariant.value;
        kept = subst (AreModules n) (sym w.list-is) c.loop-place.invariant.kept;
      }
    ]
