-- what a frame spells is served
use Rattle.std.specs.Prelude.{IsTrue, true}
use Rattle.std.proofs.Common.{◌^◌, ◌≡◌, ℕ, length, refl, sym}
use Rattle.alp_base.specs.declared.choices.Choice.{Choice}
use Rattle.alp_base.specs.declared.ids.Run.{Run}
use Rattle.alp_base.specs.declared.ids.TransId.{TransId}
use Rattle.std.proofs.lemmas.Bool.{eqb-true, leb-true}
use Rattle.alp_files.specs.declared.call.Call.{Call}
use Rattle.alp_files.specs.declared.call.Call.TheVariants as call
use Rattle.alp_files.specs.Locks.{page_limit}
use Rattle.alp_fields.specs.Forms.{u32}
use Rattle.alp_fields.specs.Fields.{stamp, run, some_count}
use Rattle.alp_fields.specs.PropsField.{props, numbers}
use Rattle.alp_modes.specs.declared.Mode.{Mode}
use Rattle.alp_modes.specs.declared.Mode.TheVariants as mode
use Rattle.alp_modes.specs.Modes.{covers_of}
use Rattle.alp_rpc.specs.Calls.{run_mode, filled_run, is_run_mode}
use Rattle.alp_rpc.specs.Calls as calls
use Rattle.alp_rpc.specs.Frames.{request, IsSendable}
use Rattle.alp_rpc.specs.declared.frame.Request.{Request}
use Rattle.alp_node.specs.Shapes.{ReadsSome}
use Rattle.alp_node.specs.Served.{IsServed, IsAskable}
use Rattle.alp_journal.specs.declared.event.Event.{Event}
use Rattle.alp_journal.specs.declared.event.Event.TheVariants as event
use Rattle.alp_storm.specs.Logs.{IsWorkers}

-- pages are read under locks that let them be read
reads : (m : Mode) → is_run_mode m ≡ true → IsTrue (covers_of m mode.Read)
unfolding covers_of
reads mode.IntendRead is = cc
reads mode.IntendWrite is = cc
reads mode.Read is = refl
reads mode.Update is = refl
reads mode.ReadIntendWrite is = cc
reads mode.Write is = refl

-- and none of them is an intention
of_leaf : (t : TransId) (n : ℕ) (r : Run) (m : Mode) (wish : Choice) → is_run_mode m ≡ true → ReadsSome (call.LockPages t n r m wish)
of_leaf t n r mode.IntendRead wish is = is
of_leaf t n r mode.IntendWrite wish is = is
of_leaf t n r mode.Read wish is = refl
of_leaf t n r mode.Update wish is = refl
of_leaf t n r mode.ReadIntendWrite wish is = is
of_leaf t n r mode.Write wish is = refl

-- each call of the grammar may be asked
askable : (c : Call) → calls.call.Fits c → IsAskable c
unfolding calls.call run_mode filled_run stamp run some_count props numbers u32 page_limit
askable (call.Hello name) fits = tt
askable (call.Begin seen) fits = leb-true seen.ts (2 ^ 62) fits.0.1
askable (call.Join t) fits = tt
askable (call.CreateFile t start wish) fits = (refl, (tt, fits.1.0.1.1.0.1.1.1.0, tt), tt)
askable (call.OpenFile t f access m wish) fits = (refl, (tt, tt, tt), tt)
askable (call.CloseFile t n) fits = (refl, (tt, tt, tt), tt)
askable (call.DeleteFile t n wish) fits = (refl, (tt, tt, tt), tt)
askable (call.ReadPages t n r m wish) fits = (refl, (tt, tt, reads m fits.1.1.0.1), (leb-true 1 r.count fits.1.0.1.1, of_leaf t n r m wish fits.1.1.0.1))
askable (call.WritePages t n r pages wish) fits = (refl, (sym (eqb-true r.count (length pages) fits.1.0.1), tt, tt), tt)
askable (call.LockPages t n r m wish) fits = (refl, (tt, tt, tt), of_leaf t n r m wish fits.1.1.0.1)
askable (call.SetSize t n size wish) fits = (refl, (tt, fits.1.0, tt), tt)
askable (call.ReadProps t n) fits = (refl, (tt, tt, tt), tt)
askable (call.WriteProps t n change wish) fits = (refl, (tt, tt, tt), tt)
askable (call.ReadOwner t owner wish) fits = (refl, (tt, tt, tt), tt)
askable (call.MakeOwner t owner quota list wish) fits = (refl, (tt, tt, tt), tt)
askable (call.SetQuota t owner quota wish) fits = (refl, (tt, tt, tt), tt)
askable (call.Finish t keep) fits = tt
askable (call.Outcome t) fits = tt
askable (call.Collect n) fits = tt

call_fits : (r : Request) → request.Fits r → calls.call.Fits r.call
unfolding request
call_fits r fits = fits.1

-- and so each request, and whatever else a worker asks
pub worker_served : (e : Event) → IsWorkers e → IsServed e
worker_served (event.Call client epoch number c) w = (w.1.0.from_one, w.1.0.to_last, askable c (call_fits (record { client = client; epoch = epoch; number = number; call = c }) w.0))
worker_served (event.Timeout t) w = tt
worker_served event.Tick w = tt
worker_served event.Force w = absurd w
worker_served (event.Arrive from m) w = absurd w
worker_served event.Restart w = absurd w
