-- `perform::settling::settle` meets its contract, by the command. First what the arms ask, and then what they answer: the definition's clause
-- for the command, told by the arm.
use mathlib.Core.Path.{refl}
use Rattle.model.specs.Effects.{effect_of}
use Rattle.perform.proofs.SettleLaws.{settles, settles_not, call_room, return_kept}
use Rattle.perform.proofs.settling.settle.Goals as goal

pub call-requires : goal.call-requires
unfolding effect_of
call-requires c = call_room c.in-Call.is c.requires

pub return_from_call-requires : goal.return_from_call-requires
unfolding effect_of
return_from_call-requires c = return_kept c.in-Return.is c.requires

pub returns-in-Nop : goal.returns-in-Nop
unfolding effect_of
returns-in-Nop c = settles _ _ _ _ _ c.in-Nop.is (λ g pixel_of store. refl) c.nop.ensures

pub returns-in-Link : goal.returns-in-Link
unfolding effect_of
returns-in-Link c = settles _ _ _ _ _ c.in-Link.is (λ g pixel_of store. refl) c.link.ensures

pub returns-in-Call : goal.returns-in-Call
unfolding effect_of
returns-in-Call c = settles _ _ _ _ _ c.in-Call.is (λ g pixel_of store. refl) c.call.ensures

pub returns-in-Return : goal.returns-in-Return
unfolding effect_of
returns-in-Return c = settles _ _ _ _ _ c.in-Return.is (λ g pixel_of store. refl) c.return_from_call.ensures

pub returns-in-AbsMov : goal.returns-in-AbsMov
unfolding effect_of
returns-in-AbsMov c = settles _ _ _ _ _ c.in-AbsMov.is (λ g pixel_of store. refl) c.abs_mov.ensures

pub returns-in-RelMov : goal.returns-in-RelMov
unfolding effect_of
returns-in-RelMov c = settles _ _ _ _ _ c.in-RelMov.is (λ g pixel_of store. refl) c.rel_mov.ensures

pub returns-in-DefBitmap : goal.returns-in-DefBitmap
unfolding effect_of
returns-in-DefBitmap c = settles _ _ _ _ _ c.in-DefBitmap.is (λ g pixel_of store. refl) c.def_bitmap.ensures

pub returns-in-DefClipRect : goal.returns-in-DefClipRect
unfolding effect_of
returns-in-DefClipRect c = settles _ _ _ _ _ c.in-DefClipRect.is (λ g pixel_of store. refl) c.def_clip_rect.ensures

pub returns-in-DefColors : goal.returns-in-DefColors
unfolding effect_of
returns-in-DefColors c = settles _ _ _ _ _ c.in-DefColors.is (λ g pixel_of store. refl) c.def_colors.ensures

pub returns-in-DefLogicalOp : goal.returns-in-DefLogicalOp
unfolding effect_of
returns-in-DefLogicalOp c = settles _ _ _ _ _ c.in-DefLogicalOp.is (λ g pixel_of store. refl) c.def_logical_op.ensures

pub returns-in-DefTexture : goal.returns-in-DefTexture
unfolding effect_of
returns-in-DefTexture c = settles _ _ _ _ _ c.in-DefTexture.is (λ g pixel_of store. refl) c.def_texture.ensures

pub returns-in-DefSpace : goal.returns-in-DefSpace
unfolding effect_of
returns-in-DefSpace c = settles _ _ _ _ _ c.in-DefSpace.is (λ g pixel_of store. refl) c.def_space.ensures

pub returns-in-DefCharOrient : goal.returns-in-DefCharOrient
unfolding effect_of
returns-in-DefCharOrient c = settles _ _ _ _ _ c.in-DefCharOrient.is (λ g pixel_of store. refl) c.def_char_orient.ensures

pub returns-in-DefCharSet : goal.returns-in-DefCharSet
unfolding effect_of
returns-in-DefCharSet c = settles _ _ _ _ _ c.in-DefCharSet.is (λ g pixel_of store. refl) c.def_char_set.ensures

pub returns-in-EnterPick : goal.returns-in-EnterPick
unfolding effect_of
returns-in-EnterPick c = settles _ _ _ _ _ c.in-EnterPick.is (λ g pixel_of store. refl) c.enter_pick.ensures

pub returns-in-ExitPick : goal.returns-in-ExitPick
unfolding effect_of
returns-in-ExitPick c = settles _ _ _ _ _ c.in-ExitPick.is (λ g pixel_of store. refl) c.exit_pick.ensures

pub returns-in_default : goal.returns-in_default
unfolding effect_of
returns-in_default c = settles_not _ _ _ _ _ c.in_default.in_default-own.keys17
