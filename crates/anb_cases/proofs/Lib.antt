mod Rising
mod Unstarted
