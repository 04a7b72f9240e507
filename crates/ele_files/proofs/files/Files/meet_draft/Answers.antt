use Rattle.ele_files.proofs.Lemmas.{Meets, [], ap, draft_places, meets_none, on_ok_weaker, option_map_or, places_from, shown, subst, sym, ◌∙◌}
use Rattle.ele_files.proofs.files.Files.meet_draft.Goals as goal

pub returns-in-Some : goal.returns-in-Some
returns-in-Some c =
    let is = draft_places c.self.inside.store c.self.inside.sessions c.args.file c.in-Some.ensures.orderly.drafts_rise ∙ ap (λ o. option_map_or (λ m. places_from c.args.file 0 (shown c.self.inside.store m)) o []) (sym c.in-Some.ensures.map) in
    on_ok_weaker c.meet.result (λ meets. rw (← c.self.view_is) (subst (Meets c.args.file c.args.met.now.keys c.meet.new.met.keys) (sym is) (meets c.args.file))) c.meet.ensures

pub returns-in-None : goal.returns-in-None
returns-in-None c =
    let is = draft_places c.self.inside.store c.self.inside.sessions c.args.file c.in-None.ensures.orderly.drafts_rise ∙ ap (λ o. option_map_or (λ m. places_from c.args.file 0 (shown c.self.inside.store m)) o []) (sym c.in-None.ensures.map) in
    rw (← c.self.view_is) (subst (Meets c.args.file c.args.met.now.keys c.args.met.now.keys) (sym is) (meets_none c.args.file c.args.met.now.keys))
