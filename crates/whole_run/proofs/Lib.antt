mod HandLaws
mod BackLaws
mod OwnLaws
mod DeskLaws
mod FrontLaws
