-- The actors of a site stand in order.
use Rattle.std.proofs.Common.{◌≡◌, ◌∙◌, ℕ, zero, suc, ◌<◌, ◌+◌, ◌-◌, List, [], ◌∷◌, ◌++◌, length, map, get_or, refl, ap, sym, subst, arith}
use Rattle.std.specs.Prelude.{Bool, ◌&&◌, Some, slice_get, slice_set, Result, Ok, Err, OnOk, IfOk}
use Rattle.std.proofs.lemmas.Bool.{cond-true, lt-ltb}
use Rattle.us_base.specs.declared.shape.Shape.{Shape}
use Rattle.us_peer_wire.specs.declared.message.Actor.{Actor}
use Rattle.us_model.specs.declared.event.Event.{Event}
use Rattle.us_model.specs.declared.event.Event.TheVariants as event
use Rattle.us_model.specs.declared.event.Outputs.{Outputs}
use Rattle.us_model.specs.declared.settings.Settings.{Settings}
use Rattle.us_model.specs.State.{Site}
use Rattle.us_model.specs.Sites.{ActorStep, actor_of, shard_at, step_of, site_step, take_event, wake, is_full, no_outputs}
use Rattle.us_model.specs.Sites.{with_shard as site_with, Stepped}
use Rattle.us_site.specs.Events.{is_open}
use Rattle.us_site.specs.Shards.{Kept, shard_of, with_shard, IsAt, AreAt}

abbrev at_actor : Shape → ℕ → Kept → ℕ → Type 0
at_actor shape site k n = IsAt shape (record { site = site; actor = n }) k

-- each stands at its number
pub stands : (shape : Shape) (site n m i : ℕ) (ks : List Kept) (d : Kept) → AreAt shape site n ks → i < length ks → m ≡ n + i
    → IsAt shape (record { site = site; actor = m }) (get_or ks i d)
stands shape site n m i [] d all less e = absurd (omega arith)
stands shape site n m zero (k ∷ ks) d all less e = let f : n ≡ m = omega arith in subst (at_actor shape site k) f all.0
stands shape site n m (suc i) (k ∷ ks) d all less e = stands shape site (suc n) m i ks d all.1 (omega arith) (omega arith)

-- another that stands there comes in its place
pub put_there : (shape : Shape) (site n m i : ℕ) (ks : List Kept) (k : Kept) → AreAt shape site n ks → m ≡ n + i
    → IsAt shape (record { site = site; actor = m }) k → AreAt shape site n (slice_set ks i k)
put_there shape site n m i [] k all e new = all
put_there shape site n m zero (x ∷ ks) k all e new = let f : m ≡ n = omega arith in (subst (at_actor shape site k) f new, all.1)
put_there shape site n m (suc i) (x ∷ ks) k all e new = (all.0, put_there shape site (suc n) m i ks k all.1 (omega arith) new)

-- one more stands behind
pub one_more : (shape : Shape) (site n m : ℕ) (ks : List Kept) (k : Kept) → AreAt shape site n ks → m ≡ n + length ks
    → IsAt shape (record { site = site; actor = m }) k → AreAt shape site n (ks ++ k ∷ [])
one_more shape site n m [] k all e new = let f : m ≡ n = omega arith in (subst (at_actor shape site k) f new, tt)
one_more shape site n m (x ∷ ks) k all e new = (all.0, one_more shape site (suc n) m ks k all.1 (omega arith) new)

-- LISTS that are seen through a function
pub map-get : {A B : Type 0} (f : A → B) (xs : List A) (i : ℕ) (d : A) → i < length xs → slice_get (map f xs) i ≡ Some (f (get_or xs i d))
map-get f [] i d less = absurd (omega arith)
map-get f (x ∷ xs) zero d less = refl
map-get f (x ∷ xs) (suc i) d less = map-get f xs i d (omega arith)

pub map-put : {A B : Type 0} (f : A → B) (xs : List A) (i : ℕ) (x : A) → map f (slice_set xs i x) ≡ slice_set (map f xs) i (f x)
map-put f [] i x = refl
map-put f (y ∷ ys) zero x = refl
map-put f (y ∷ ys) (suc i) x = ap (λ zs. f y ∷ zs) (map-put f ys i x)

pub map-push : {A B : Type 0} (f : A → B) (xs : List A) (x : A) → map f (xs ++ x ∷ []) ≡ map f xs ++ f x ∷ []
map-push f [] x = refl
map-push f (y ∷ ys) x = ap (λ zs. f y ∷ zs) (map-push f ys x)

-- A STEP of the actor with number a, which stands at place i
abbrev site_of : ℕ → Settings → List Kept → Site
site_of number settings ks = record { number = number; settings = settings; shards = map shard_of ks }

abbrev woken : ℕ → Settings → Bool → ℕ → Kept → Event → ActorStep
woken number settings full a k e =
    let me : Actor = record { site = number; actor = a } in
    wake me settings (take_event me settings full (record { shard = shard_of k; out = no_outputs }) e)

-- how many sessions are open makes a difference only where one is opened
only_opens : (me : Actor) (settings : Settings) (full : Bool) (w : ActorStep) (e : Event)
    → take_event me settings (is_open e && full) w e ≡ take_event me settings full w e
unfolding take_event
only_opens me settings full w (event.Open coord) = refl
only_opens me settings full w (event.Bytes coord session piece) = refl
only_opens me settings full w (event.Close coord session) = refl
only_opens me settings full w (event.Take packet) = refl

came : (number : ℕ) (settings : Settings) (ks : List Kept) (e : Event) (a i : ℕ) (full : Bool) (d : Kept) → a ≡ actor_of e → 0 < a → i ≡ a - 1
    → i < length ks → full ≡ (is_open e && is_full (site_of number settings ks))
    → site_step (site_of number settings ks) e ≡ site_with (site_of number settings ks) a (woken number settings full a (get_or ks i d) e)
came number settings ks e a i full d at some place less same =
    let s : Site = site_of number settings ks in
    let found : shard_at (map shard_of ks) a ≡ Some (shard_of (get_or ks i d)) =
    cond-true _ _ _ (lt-ltb 0 a some) ∙ ap (slice_get (map shard_of ks)) (sym place) ∙ map-get shard_of ks i d less in
    sym (ap (λ n. step_of s e (record { site = number; actor = n }) (shard_at (map shard_of ks) n)) at)
    ∙ ap (step_of s e (record { site = number; actor = a })) found
    ∙ sym (ap (λ b. site_with s a (woken number settings b a (get_or ks i d) e)) same
    ∙ ap (λ w. site_with s a (wake (record { site = number; actor = a }) settings w))
    (only_opens (record { site = number; actor = a }) settings (is_full s) (record { shard = shard_of (get_or ks i d); out = no_outputs }) e))

-- the site after it
pub stepped_site : {E : Type 0} (r : Result Outputs E) (number : ℕ) (settings : Settings) (ks : List Kept) (e : Event) (a i : ℕ) (full : Bool) (d new : Kept)
    → a ≡ actor_of e → 0 < a → i ≡ a - 1 → i < length ks → full ≡ (is_open e && is_full (site_of number settings ks))
    → OnOk r (new ≡ with_shard (get_or ks i d) (woken number settings full a (get_or ks i d) e).shard)
    → OnOk r ((site_step (site_of number settings ks) e).site ≡ site_of number settings (slice_set ks i new))
stepped_site (Ok x) number settings ks e a i full d new at some place less same h =
    let w : ActorStep = woken number settings full a (get_or ks i d) e in
    let put : slice_set (map shard_of ks) (a - 1) w.shard ≡ map shard_of (slice_set ks i new) =
    ap (λ j. slice_set (map shard_of ks) j w.shard) (sym place)
    ∙ sym (map-put shard_of ks i new ∙ ap (λ k. slice_set (map shard_of ks) i (shard_of k)) h) in
    ap (λ (t : Stepped). t.site) (came number settings ks e a i full d at some place less same)
    ∙ ap (λ zs. record { number = number; settings = settings; shards = zs }) put
stepped_site (Err x) number settings ks e a i full d new at some place less same h = tt

-- what it gives out
pub stepped_out : {E : Type 0} (r : Result Outputs E) (number : ℕ) (settings : Settings) (ks : List Kept) (e : Event) (a i : ℕ) (full : Bool) (d : Kept)
    → a ≡ actor_of e → 0 < a → i ≡ a - 1 → i < length ks → full ≡ (is_open e && is_full (site_of number settings ks))
    → IfOk r (λ out. out ≡ (woken number settings full a (get_or ks i d) e).out)
    → IfOk r (λ out. out ≡ (site_step (site_of number settings ks) e).out)
stepped_out (Ok x) number settings ks e a i full d at some place less same h =
    h ∙ sym (ap (λ (t : Stepped). t.out) (came number settings ks e a i full d at some place less same))
stepped_out (Err x) number settings ks e a i full d at some place less same h = tt

-- all still stand in order
pub stepped_places : {E : Type 0} (r : Result Outputs E) (number : ℕ) (settings : Settings) (ks : List Kept) (e : Event) (a i : ℕ) (full : Bool) (d new : Kept)
    → a ≡ 1 + i → i < length ks → AreAt settings.shape number 1 ks
    → OnOk r (new ≡ with_shard (get_or ks i d) (woken number settings full a (get_or ks i d) e).shard)
    → OnOk r (AreAt settings.shape number 1 (slice_set ks i new))
stepped_places (Ok x) number settings ks e a i full d new at less all h =
    let old = stands settings.shape number 1 a i ks d all less at in
    let here : IsAt settings.shape (record { site = number; actor = a })
    (with_shard (get_or ks i d) (woken number settings full a (get_or ks i d) e).shard) =
    record { store = old.store; actor = old.actor } in
    put_there settings.shape number 1 a i ks new all at (subst (IsAt settings.shape (record { site = number; actor = a })) (sym h) here)
stepped_places (Err x) number settings ks e a i full d new at less all h = tt
